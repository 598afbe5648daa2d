-- The items of the lists that a line may have, and the lists.
use Rattle.std.proofs.Common.{◌≡◌, ◌≢◌, ℕ, ◌≤◌, List, [], ◌∷◌, ◌++◌, length, map, true, false, ◌&&◌, Option, Some, None, refl, sym, ◌∙◌, ap}
use Rattle.std.proofs.Common.{subst, arith}
use Rattle.std.specs.Prelude.{◌==◌, nat_le, codes}
use Rattle.std.specs.List.{flat_map, list_all, AllByRecursion}
use Rattle.std.specs.Fmt.{decimal}
use Rattle.std.proofs.lemmas.Bool.{and_from, and_parts, both_ways, le-leb, leb-true, or_from}
use Rattle.std.proofs.lemmas.Fmt.{decimal_injective}
use Rattle.std.proofs.lemmas.List.{append_assoc}
use Rattle.std.proofs.lemmas.List.Folds.{list_any-append}
use Rattle.arj_text.specs.Words.{behind_comma, decimals, list_text, numbers_text, pair_texts, pairs_text, commas}
use Rattle.arj_text.specs.Fields.{IsRead, IsWithin, ItemsInForm, NodesInForm, NumberInForm, NumbersInForm, PairInForm, PairsInForm}
use Rattle.arj_text.specs.Fields.{has_byte, is_distinct, is_rising, items_text, pair_text}
use Rattle.arj_text.proofs.Texts.{cut_once, digits_only}
use Rattle.arj_text.proofs.Items.{items_only}

pub node_no_comma : (n : ℕ) → IsWithin 1 255 n → has_byte 44 (decimal n) ≡ false
node_no_comma n fits = digits_only 44 n refl (omega (arith, fits.1))

pub node_only : (m n : ℕ) → IsWithin 1 255 m → IsWithin 1 255 n → decimal m ≡ decimal n → m ≡ n
node_only m n m_fits n_fits = decimal_injective m n (omega (arith, m_fits.1)) (omega (arith, n_fits.1))

pub number_no_comma : (n : ℕ) → NumberInForm n → has_byte 44 (decimal n) ≡ false
number_no_comma n fits = digits_only 44 n refl fits

pub number_only : (m n : ℕ) → NumberInForm m → NumberInForm n → decimal m ≡ decimal n → m ≡ n
number_only m n m_fits n_fits = decimal_injective m n m_fits n_fits

pub pair_no_comma : (p : ℕ × ℕ) → PairInForm p → has_byte 44 (pair_text p) ≡ false
pair_no_comma p fits =
    list_any-append (λ c. c == 44) (decimal p.0) (58 ∷ decimal p.1) ∙
    or_from (has_byte 44 (decimal p.0)) _ (digits_only 44 p.0 refl fits.0) (digits_only 44 p.1 refl fits.1)

pub pair_only : (p q : ℕ × ℕ) → PairInForm p → PairInForm q → pair_text p ≡ pair_text q → p ≡ q
pair_only p q p_fits q_fits e =
    let parts = cut_once 58 (decimal p.0) (decimal q.0) (decimal p.1) (decimal q.1) (digits_only 58 p.0 refl p_fits.0) (digits_only 58 q.0 refl q_fits.0) e in
    let keys = decimal_injective p.0 q.0 p_fits.0 q_fits.0 parts.0 in
    let values = decimal_injective p.1 q.1 p_fits.1 q_fits.1 parts.1 in
    λ i. (keys i, values i)

-- the texts of lists, as texts of items
decimals_are : (ns : List ℕ) → decimals ns ≡ map decimal ns
decimals_are [] = refl
decimals_are (n ∷ ns) = ap (λ ts. decimal n ∷ ts) (decimals_are ns)

pub list_text_is : (ns : List ℕ) → list_text ns ≡ items_text decimal ns
list_text_is ns = ap commas (decimals_are ns)

pair_texts_are : (ps : List (ℕ × ℕ)) → pair_texts ps ≡ map pair_text ps
pair_texts_are [] = refl
pair_texts_are (p ∷ ps) = ap (λ ts. pair_text p ∷ ts) (pair_texts_are ps)

pub pairs_text_is : (ps : List (ℕ × ℕ)) → 1 ≤ length ps → pairs_text ps ≡ items_text pair_text ps
pairs_text_is [] some = absurd (omega arith)
pairs_text_is (p ∷ ps) some = ap commas (pair_texts_are (p ∷ ps))

pub numbers_text_is : (ns : List ℕ) → 1 ≤ length ns → numbers_text ns ≡ items_text decimal ns
numbers_text_is [] some = absurd (omega arith)
numbers_text_is (n ∷ ns) some = list_text_is (n ∷ ns)

-- nodes in form are items in form
all_nodes : (n : ℕ) (ns : List ℕ) → n ≤ 255 → list_all (λ m. nat_le 1 m && nat_le m n) ns ≡ true → AllByRecursion (IsWithin 1 255) ns
all_nodes n [] few h = tt
all_nodes n (m ∷ ms) few h =
    let parts = and_parts (nat_le 1 m && nat_le m n) _ h in
    let both = and_parts (nat_le 1 m) (nat_le m n) parts.0 in
    let low = leb-true 1 m both.0 in
    let high = leb-true m n both.1 in
    ((low, omega (arith, high, few)), all_nodes n ms few parts.1)

pub node_items : (n most : ℕ) (ns : List ℕ) → n ≤ 255 → NodesInForm n most ns → ItemsInForm (IsWithin 1 255) most ns
node_items n most ns few form =
    let parts = and_parts (nat_le 1 (length ns) && nat_le (length ns) most) _ form in
    let lengths = and_parts (nat_le 1 (length ns)) (nat_le (length ns) most) parts.0 in
    let each = and_parts (list_all (λ m. nat_le 1 m && nat_le m n) ns) (is_distinct ns) parts.1 in
    (leb-true 1 (length ns) lengths.0, leb-true (length ns) most lengths.1, all_nodes n ns few each.0)

-- What was read as items is read as nodes where each is in place and none stands twice, and else no list of nodes has
-- the text.
pub no_nodes : (n most : ℕ) (bytes : List ℕ) → n ≤ 255 → IsRead (ItemsInForm (IsWithin 1 255) most) (items_text decimal) bytes None →
    IsRead (NodesInForm n most) list_text bytes None
no_nodes n most bytes few none = λ ns form e. none ns (node_items n most ns few form) (e ∙ list_text_is ns)

pub other_nodes : (n most : ℕ) (bytes found : List ℕ) → n ≤ 255 →
    IsRead (ItemsInForm (IsWithin 1 255) most) (items_text decimal) bytes (Some found) →
    (list_all (λ m. nat_le 1 m && nat_le m n) found && is_distinct found) ≡ false → IsRead (NodesInForm n most) list_text bytes None
other_nodes n most bytes found few read not_so = λ ns form e.
    let items = node_items n most ns few form in
    let same : found ≡ ns =
    items_only (IsWithin 1 255) decimal node_no_comma node_only found ns read.0.2 items.2 read.0.0 items.0 (sym read.1 ∙ (e ∙ list_text_is ns)) in
    let tests = and_parts (nat_le 1 (length ns) && nat_le (length ns) most) _ form in
    both_ways _ not_so (subst (λ xs. (list_all (λ m. nat_le 1 m && nat_le m n) xs && is_distinct xs) ≡ true) (sym same) tests.1)

pub same_nodes : (n most : ℕ) (bytes found : List ℕ) → IsRead (ItemsInForm (IsWithin 1 255) most) (items_text decimal) bytes (Some found) →
    (list_all (λ m. nat_le 1 m && nat_le m n) found && is_distinct found) ≡ true → IsRead (NodesInForm n most) list_text bytes (Some found)
same_nodes n most bytes found read so =
    let lengths : (nat_le 1 (length found) && nat_le (length found) most) ≡ true =
    and_from _ _ (le-leb 1 (length found) read.0.0) (le-leb (length found) most read.0.1) in
    (and_from _ _ lengths so, read.1 ∙ sym (list_text_is found))

-- What was read as items is read as numbers, and what wasn't is `-` alone.
pub numbers_read : (most : ℕ) (bytes : List ℕ) (found : Option (List ℕ)) → bytes ≢ codes "-" →
    IsRead (ItemsInForm NumberInForm most) (items_text decimal) bytes found → IsRead (NumbersInForm most) numbers_text bytes found
numbers_read most bytes None other none = λ ns form e. cases ns form e
  where
    cases : (ns : List ℕ) → NumbersInForm most ns → bytes ≢ numbers_text ns
    cases [] form e = other e
    cases (n ∷ ns) form e = none (n ∷ ns) (omega arith, form.0, form.1) (e ∙ list_text_is (n ∷ ns))
numbers_read most bytes (Some ns) other read = ((read.0.1, read.0.2), read.1 ∙ sym (numbers_text_is ns read.0.0))

-- What was read as items is read as pairs where the keys rise, and else no pairs have the text.
pub no_pairs : (most : ℕ) (bytes : List ℕ) → bytes ≢ codes "-" → IsRead (ItemsInForm PairInForm most) (items_text pair_text) bytes None →
    IsRead (PairsInForm most) pairs_text bytes None
no_pairs most bytes other none = λ ps form e. cases ps form e
  where
    cases : (ps : List (ℕ × ℕ)) → PairsInForm most ps → bytes ≢ pairs_text ps
    cases [] form e = other e
    cases (p ∷ ps) form e = none (p ∷ ps) (omega arith, form.0, form.1) (e ∙ pairs_text_is (p ∷ ps) (omega arith))

pub falling_pairs : (most : ℕ) (bytes : List ℕ) (found : List (ℕ × ℕ)) → bytes ≢ codes "-" →
    IsRead (ItemsInForm PairInForm most) (items_text pair_text) bytes (Some found) → is_rising found ≡ false →
    IsRead (PairsInForm most) pairs_text bytes None
falling_pairs most bytes found other read falls = λ ps form e. cases ps form e
  where
    cases : (ps : List (ℕ × ℕ)) → PairsInForm most ps → bytes ≢ pairs_text ps
    cases [] form e = other e
    cases (p ∷ ps) form e =
        let same : found ≡ p ∷ ps =
        items_only PairInForm pair_text pair_no_comma pair_only found (p ∷ ps) read.0.2 form.1 read.0.0 (omega arith) (sym read.1 ∙ (e ∙ pairs_text_is (p ∷ ps) (omega arith))) in
        both_ways _ falls (subst (λ qs. is_rising qs ≡ true) (sym same) form.2)

pub rising_pairs : (most : ℕ) (bytes : List ℕ) (found : List (ℕ × ℕ)) →
    IsRead (ItemsInForm PairInForm most) (items_text pair_text) bytes (Some found) → is_rising found ≡ true →
    IsRead (PairsInForm most) pairs_text bytes (Some found)
rising_pairs most bytes found read rises = ((read.0.1, read.0.2, rises), read.1 ∙ sym (pairs_text_is found read.0.0))

-- numbers in two parts, each behind a comma
pub numbers_behind_commas : (ms ns : List ℕ) →
    flat_map behind_comma (decimals (ms ++ ns)) ≡ flat_map behind_comma (decimals ms) ++ flat_map behind_comma (decimals ns)
numbers_behind_commas [] ns = refl
numbers_behind_commas (m ∷ ms) ns =
    ap (λ text. behind_comma (decimal m) ++ text) (numbers_behind_commas ms ns) ∙ sym (append_assoc (behind_comma (decimal m)) (flat_map behind_comma (decimals ms)) (flat_map behind_comma (decimals ns)))
