-- The texts of lists, bytes and values hold no space where none should stand.
use Rattle.std.proofs.Common.{◌≡◌, ℕ, ◌+◌, ◌≤◌, ◌/◌, ◌%◌, Bool, List, [], ◌∷◌, ◌++◌, codes, length, length-append, map, take, false, true}
use Rattle.std.proofs.Common.{Some, None, refl, sym, ◌∙◌, ap, arith, append_assoc}
use Rattle.std.specs.Prelude.{◌==◌, nat_lt, if◌then◌else◌}
use Rattle.std.specs.List.{flat_map, AllByRecursion}
use Rattle.std.specs.Fmt.{decimal}
use Rattle.std.proofs.Math.Seq.{take-append_seam}
use Rattle.std.proofs.lemmas.Bool.{ne_eqb, or_from}
use Rattle.std.proofs.lemmas.List.Folds.{list_any-append}
use Rattle.arj_base.specs.declared.state.Class.{Class}
use Rattle.arj_base.specs.declared.state.Class.TheVariants as class
use Rattle.arj_class.specs.declared.value.Value.{Value}
use Rattle.arj_class.specs.declared.value.Value.TheVariants as value
use Rattle.arj_text.specs.Words.{behind_comma, gone_text, hex, hex_digit, hex_pair, list_text, numbers_text, pairs_text, value_text}
use Rattle.arj_text.specs.Fields.{IsObjectClass, IsRead, HasNoFirst, IsFirst, NodesInForm, NumberInForm, PairInForm, ValueTextInForm, has_space}
use Rattle.arj_text.specs.Fields.{items_text, pair_text}
use Rattle.arj_text.proofs.Texts.{cut_once, digits_only, no_cut}
use Rattle.arj_text.proofs.ListItems.{list_text_is, node_items, pairs_text_is}

-- one text behind another
pub spaceless_append : (a b : List ℕ) → has_space a ≡ false → has_space b ≡ false → has_space (a ++ b) ≡ false
spaceless_append a b ha hb = list_any-append (λ c. c == 32) a b ∙ or_from (has_space a) (has_space b) ha hb

-- items without a space, joined by commas
pub spaceless_items : {A : Type 0} (InForm : A → Type 0) (text : A → List ℕ) → ((a : A) → InForm a → has_space (text a) ≡ false) →
    (xs : List A) → AllByRecursion InForm xs → has_space (items_text text xs) ≡ false
spaceless_items InForm text each [] fits = refl
spaceless_items {A = A} InForm text each (x ∷ xs) fits =
    spaceless_append (text x) (flat_map behind_comma (map text xs)) (each x fits.0) (rest xs fits.1)
  where
    rest : (ys : List A) → AllByRecursion InForm ys → has_space (flat_map behind_comma (map text ys)) ≡ false
    rest [] all = refl
    rest (y ∷ ys) all = spaceless_append (44 ∷ text y) (flat_map behind_comma (map text ys)) (each y all.0) (rest ys all.1)

spaceless_digit : (n : ℕ) → (hex_digit n == 32) ≡ false
spaceless_digit n = ne_eqb (hex_digit n) 32 (cases (nat_lt n 10))
  where
    cases : (low : Bool) → (if low then 48 + n else 87 + n) ≡ 32 → ⊥
    cases true e = absurd (omega arith)
    cases false e = absurd (omega arith)

spaceless_pairs : (bs : List ℕ) → has_space (flat_map hex_pair bs) ≡ false
spaceless_pairs [] = refl
spaceless_pairs (b ∷ bs) =
    spaceless_append (hex_pair b) (flat_map hex_pair bs) (or_from (hex_digit (b / 16) == 32) _ (spaceless_digit (b / 16)) (or_from (hex_digit (b % 16) == 32) false (spaceless_digit (b % 16)) refl)) (spaceless_pairs bs)

pub spaceless_hex : (bs : List ℕ) → has_space (hex bs) ≡ false
spaceless_hex [] = refl
spaceless_hex (b ∷ bs) = spaceless_pairs (b ∷ bs)

pub spaceless_nodes : (n most : ℕ) (ns : List ℕ) → n ≤ 255 → NodesInForm n most ns → has_space (list_text ns) ≡ false
spaceless_nodes n most ns few form =
    ap has_space (list_text_is ns) ∙ spaceless_items _ decimal (λ m fits. digits_only 32 m refl (omega (arith, fits.1))) ns (node_items n most ns few form).2

spaceless_numbers : (ns : List ℕ) → AllByRecursion NumberInForm ns → has_space (numbers_text ns) ≡ false
spaceless_numbers [] fits = refl
spaceless_numbers (n ∷ ns) fits =
    ap has_space (list_text_is (n ∷ ns)) ∙ spaceless_items NumberInForm decimal (λ m small. digits_only 32 m refl small) (n ∷ ns) fits

spaceless_table : (ps : List (ℕ × ℕ)) → AllByRecursion PairInForm ps → has_space (pairs_text ps) ≡ false
spaceless_table [] fits = refl
spaceless_table (p ∷ ps) fits =
    ap has_space (pairs_text_is (p ∷ ps) (omega arith)) ∙
    spaceless_items PairInForm pair_text (λ q form. spaceless_append (decimal q.0) (58 ∷ decimal q.1) (digits_only 32 q.0 refl form.0) (digits_only 32 q.1 refl form.1)) (p ∷ ps) fits

-- The text of a value is two words.
pub record TwoWords (text : List ℕ) : Type 0 where
  pub class : List ℕ
  pub word : List ℕ
  pub class_whole : has_space class ≡ false
  pub word_whole : has_space word ≡ false
  pub is : text ≡ class ++ 32 ∷ word

pub value_words : (v : Value) → ValueTextInForm v → TwoWords (value_text v)
value_words (value.Counter n) form =
    record { class = codes "counter"; word = decimal n; class_whole = refl; word_whole = digits_only 32 n refl form; is = refl }
value_words (value.Register bs) form =
    record { class = codes "register"; word = hex bs; class_whole = refl; word_whole = spaceless_hex bs; is = refl }
value_words (value.Account n) form =
    record { class = codes "account"; word = decimal n; class_whole = refl; word_whole = digits_only 32 n refl form; is = refl }
value_words (value.Queue ns) form =
    record { class = codes "queue"; word = numbers_text ns; class_whole = refl; word_whole = spaceless_numbers ns form.1; is = refl }
value_words (value.Table ps) form =
    record { class = codes "table"; word = pairs_text ps; class_whole = refl; word_whole = spaceless_table ps form.1; is = refl }
value_words (value.Gone c) form = gone_words c form
  where
    gone_words : (c : Class) → IsObjectClass c → TwoWords (gone_text c)
    gone_words class.Counter form = record { class = codes "counter"; word = codes "gone"; class_whole = refl; word_whole = refl; is = refl }
    gone_words class.Register form = record { class = codes "register"; word = codes "gone"; class_whole = refl; word_whole = refl; is = refl }
    gone_words class.Account form = record { class = codes "account"; word = codes "gone"; class_whole = refl; word_whole = refl; is = refl }
    gone_words class.Queue form = record { class = codes "queue"; word = codes "gone"; class_whole = refl; word_whole = refl; is = refl }
    gone_words class.Table form = record { class = codes "table"; word = codes "gone"; class_whole = refl; word_whole = refl; is = refl }
    gone_words _ form = absurd (cc form)

-- Where a value with a space behind it is the front of a line, its two words are the first two of the line.
pub value_cut : (bytes class fields word rest : List ℕ) (v : Value) (r : List ℕ) → has_space class ≡ false → bytes ≡ class ++ 32 ∷ fields →
    has_space word ≡ false → fields ≡ word ++ 32 ∷ rest → ValueTextInForm v → bytes ≡ value_text v ++ 32 ∷ r →
    (class ++ 32 ∷ word ≡ value_text v) × (rest ≡ r)
value_cut bytes class fields word rest v r hc front hw parts form e =
    let two = value_words v form in
    let whole : value_text v ++ 32 ∷ r ≡ two.class ++ 32 ∷ (two.word ++ 32 ∷ r) =
    ap (λ t. t ++ 32 ∷ r) two.is ∙ append_assoc two.class (32 ∷ two.word) (32 ∷ r) in
    let outer = cut_once 32 class two.class fields (two.word ++ 32 ∷ r) hc two.class_whole (sym front ∙ (e ∙ whole)) in
    let inner = cut_once 32 word two.word rest r hw two.word_whole (sym parts ∙ outer.1) in
    ((λ i. outer.0 i ++ 32 ∷ inner.0 i) ∙ sym two.is, inner.1)

-- Less than two words with a space behind them are no value with a space behind it.
pub no_class : (bytes : List ℕ) → has_space bytes ≡ false → HasNoFirst 32 ValueTextInForm value_text bytes
no_class bytes h = λ v r form e. no_cut 32 bytes (value_text v) r h e

pub no_word : (bytes class fields : List ℕ) → has_space class ≡ false → bytes ≡ class ++ 32 ∷ fields → has_space fields ≡ false →
    HasNoFirst 32 ValueTextInForm value_text bytes
no_word bytes class fields hc front hf = λ v r form e.
    let two = value_words v form in
    let whole : value_text v ++ 32 ∷ r ≡ two.class ++ 32 ∷ (two.word ++ 32 ∷ r) =
    ap (λ t. t ++ 32 ∷ r) two.is ∙ append_assoc two.class (32 ∷ two.word) (32 ∷ r) in
    let outer = cut_once 32 class two.class fields (two.word ++ 32 ∷ r) hc two.class_whole (sym front ∙ (e ∙ whole)) in
    no_cut 32 fields two.word r hf outer.1

pub value_none : (bytes class fields word rest : List ℕ) → has_space class ≡ false → bytes ≡ class ++ 32 ∷ fields → has_space word ≡ false →
    fields ≡ word ++ 32 ∷ rest → IsRead ValueTextInForm value_text (class ++ 32 ∷ word) None → HasNoFirst 32 ValueTextInForm value_text bytes
value_none bytes class fields word rest hc front hw parts none = λ v r form e.
    none v form (value_cut bytes class fields word rest v r hc front hw parts form e).0

pub value_some : (bytes class fields word rest : List ℕ) (v : Value) → has_space class ≡ false → bytes ≡ class ++ 32 ∷ fields →
    has_space word ≡ false → fields ≡ word ++ 32 ∷ rest → IsRead ValueTextInForm value_text (class ++ 32 ∷ word) (Some v) →
    IsFirst 32 ValueTextInForm value_text bytes v rest
value_some bytes class fields word rest v hc front hw parts read = record {
  in_form = read.0;
  parts = front ∙ (ap (λ t. class ++ 32 ∷ t) parts ∙ (sym (append_assoc class (32 ∷ word) (32 ∷ rest)) ∙ ap (λ t. t ++ 32 ∷ rest) read.1));
  only = λ w r form e. let cut = value_cut bytes class fields word rest w r hc front hw parts form e in (sym read.1 ∙ cut.0, cut.1);
}

-- the first two words of a line
pub two_taken : (bytes class fields word rest : List ℕ) → bytes ≡ class ++ 32 ∷ fields → fields ≡ word ++ 32 ∷ rest →
    take (length class + 1 + length word) bytes ≡ class ++ 32 ∷ word
two_taken bytes class fields word rest front parts =
    let whole : bytes ≡ (class ++ 32 ∷ word) ++ 32 ∷ rest =
    front ∙ (ap (λ t. class ++ 32 ∷ t) parts ∙ sym (append_assoc class (32 ∷ word) (32 ∷ rest))) in
    let long : length class + 1 + length word ≡ length (class ++ 32 ∷ word) = omega (arith, length-append class (32 ∷ word)) in
    (λ i. take (long i) (whole i)) ∙ take-append_seam (class ++ 32 ∷ word) (32 ∷ rest)
