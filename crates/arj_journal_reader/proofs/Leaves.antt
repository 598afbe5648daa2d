-- The pieces of a line that are one word: which bytes their texts lack, and that no two have one text.
use Rattle.std.proofs.Common.{◌≡◌, ◌≢◌, ℕ, ◌+◌, ◌-◌, ◌/◌, ◌%◌, ◌<◌, ◌≤◌, List, [], ◌∷◌, ◌++◌, length, drop, true, false, ◌||◌, Some, None}
use Rattle.std.proofs.Common.{refl, sym, ◌∙◌, ap, subst, arith, ⊎_elim}
use Rattle.std.specs.Prelude.{◌==◌, Bool, codes, find, if◌then◌else◌, nat_lt, replicate}
use Rattle.std.specs.List.{flat_map, list_all}
use Rattle.std.specs.Fmt.{decimal}
use Rattle.std.specs.Str.{bytes_eq}
use Rattle.std.proofs.Math.Path.{PathP, to_path_p}
use Rattle.std.proofs.Props.{props}
use Rattle.std.proofs.lemmas.Bool.{and_parts, both_ways, cases_Bool, ne_eqb, or_from}
use Rattle.std.proofs.lemmas.Bool.Decides.{nat_tests}
use Rattle.std.proofs.lemmas.Fmt.{decimal_injective}
use Rattle.std.proofs.lemmas.List.{length-take, take-append-drop}
use Rattle.arj_base.specs.Uid.{UidFits, binding_text, uid_text}
use Rattle.arj_text.specs.declared.label.Label.{Label}
use Rattle.arj_text.specs.Fields.{AreBytes, BindingInForm, NumberInForm, has_byte}
use Rattle.arj_text.specs.Label.{LabelInForm, is_digit, is_label, is_letter, name}
use Rattle.arj_journal.specs.LineForm.{ParentInForm}
use Rattle.arj_journal.specs.LineText.{parent_text}
use Rattle.arj_journal_reader.specs.Spellings.{IsKnown}
use Rattle.arj_text.specs.Words.{hex, hex_digit, hex_pair}
use Rattle.arj_journal_reader.proofs.ByKind.{Once, Lacks, lacks_both, lacks_behind}
use Rattle.arj_text.proofs.Texts.{cut_once, digits_only}

-- a byte that no word has: a space or the end of a line
pub record IsApart (k : ℕ) : Type 0 where
  pub digit : is_digit k ≡ false
  pub letter : is_letter k ≡ false
  pub dash : (45 == k) ≡ false
  pub point : (46 == k) ≡ false
  pub comma : (44 == k) ≡ false

pub space_apart : IsApart 32
space_apart = record { digit = refl; letter = refl; dash = refl; point = refl; comma = refl }

pub end_apart : IsApart 10
end_apart = record { digit = refl; letter = refl; dash = refl; point = refl; comma = refl }

-- Numbers.
pub number_lacks : (k : ℕ) → IsApart k → (n : ℕ) → NumberInForm n → has_byte k (decimal n) ≡ false
number_lacks k apart n fits = digits_only k n apart.digit fits

pub number_once : (m n : ℕ) → NumberInForm m → NumberInForm n → decimal m ≡ decimal n → m ≡ n
number_once m n hm hn e = decimal_injective m n hm hn e

-- Uids and bindings, which have points between their numbers.
pub binding_lacks : (k : ℕ) → IsApart k → Lacks k BindingInForm binding_text
binding_lacks k apart b fits =
    lacks_behind k 46 (decimal b.inc) (decimal b.count) apart.point (digits_only k b.inc apart.digit (omega (arith, fits.0))) (digits_only k b.count apart.digit (omega (arith, fits.1)))

pub uid_lacks : (k : ℕ) → IsApart k → Lacks k UidFits uid_text
uid_lacks k apart u fits =
    lacks_behind k 46 (decimal u.node) (decimal u.inc ++ 46 ∷ decimal u.num) apart.point (digits_only k u.node apart.digit (omega (arith, fits.0)))
    (lacks_behind k 46 (decimal u.inc) (decimal u.num) apart.point (digits_only k u.inc apart.digit (omega (arith, fits.1))) (digits_only k u.num apart.digit (omega (arith, fits.2))))

pub binding_once : Once BindingInForm binding_text
binding_once a b ha hb e =
    let cuts = cut_once 46 (decimal a.inc) (decimal b.inc) (decimal a.count) (decimal b.count) (digits_only 46 a.inc refl (omega (arith, ha.0))) (digits_only 46 b.inc refl (omega (arith, hb.0))) e in
    let inc = decimal_injective a.inc b.inc (omega (arith, ha.0)) (omega (arith, hb.0)) cuts.0 in
    let count = decimal_injective a.count b.count (omega (arith, ha.1)) (omega (arith, hb.1)) cuts.1 in
    λ i. record { inc = inc i; count = count i }

pub uid_once : Once UidFits uid_text
uid_once a b ha hb e =
    let first = cut_once 46 (decimal a.node) (decimal b.node) (decimal a.inc ++ 46 ∷ decimal a.num) (decimal b.inc ++ 46 ∷ decimal b.num) (digits_only 46 a.node refl (omega (arith, ha.0))) (digits_only 46 b.node refl (omega (arith, hb.0))) e in
    let second = cut_once 46 (decimal a.inc) (decimal b.inc) (decimal a.num) (decimal b.num) (digits_only 46 a.inc refl (omega (arith, ha.1))) (digits_only 46 b.inc refl (omega (arith, hb.1))) first.1 in
    let node = decimal_injective a.node b.node (omega (arith, ha.0)) (omega (arith, hb.0)) first.0 in
    let inc = decimal_injective a.inc b.inc (omega (arith, ha.1)) (omega (arith, hb.1)) second.0 in
    let num = decimal_injective a.num b.num (omega (arith, ha.2)) (omega (arith, hb.2)) second.1 in
    λ i. record { node = node i; inc = inc i; num = num i }

-- Labels.
letter_lacks : (k b : ℕ) → is_letter k ≡ false → is_letter b ≡ true → (b == k) ≡ false
letter_lacks k b apart h = ne_eqb b k (λ e. both_ways (is_letter k) apart (subst (λ n. is_letter n ≡ true) e h))

pub letters_lack : (k : ℕ) → is_letter k ≡ false → (bs : List ℕ) → list_all is_letter bs ≡ true → has_byte k bs ≡ false
letters_lack k apart [] h = refl
letters_lack k apart (b ∷ bs) h =
    let parts = and_parts (is_letter b) (list_all is_letter bs) h in
    or_from (b == k) (has_byte k bs) (letter_lacks k b apart parts.0) (letters_lack k apart bs parts.1)

sign_lacks : (k b : ℕ) → IsApart k → (is_letter b || is_digit b) ≡ true → (b == k) ≡ false
sign_lacks k b apart h =
    ne_eqb b k (λ e. both_ways (is_letter k || is_digit k) (or_from (is_letter k) (is_digit k) apart.letter apart.digit) (subst (λ n. (is_letter n || is_digit n) ≡ true) e h))

signs_lack : (k : ℕ) → IsApart k → (bs : List ℕ) → list_all (λ c. is_letter c || is_digit c) bs ≡ true → has_byte k bs ≡ false
signs_lack k apart [] h = refl
signs_lack k apart (b ∷ bs) h =
    let parts = and_parts (is_letter b || is_digit b) (list_all (λ c. is_letter c || is_digit c) bs) h in
    or_from (b == k) (has_byte k bs) (sign_lacks k b apart parts.0) (signs_lack k apart bs parts.1)

label_text_lacks : (k : ℕ) → IsApart k → (bs : List ℕ) → is_label bs ≡ true → has_byte k bs ≡ false
label_text_lacks k apart [] h = refl
label_text_lacks k apart (b ∷ bs) h =
    let parts = and_parts (is_letter b) (list_all (λ c. is_letter c || is_digit c) bs) h in
    or_from (b == k) (has_byte k bs) (letter_lacks k b apart.letter parts.0) (signs_lack k apart bs parts.1)

pub label_lacks : (k : ℕ) → IsApart k → Lacks k LabelInForm name
label_lacks k apart l fits = label_text_lacks k apart (name l) fits

-- The facts that a label keeps have one proof each.
same_label : (a b : Label) → (e : a.len ≡ b.len) → (f : a.text ≡ b.text) → a ≡ b
same_label a b e f =
    let whole_prop : IsProp (length b.text ≡ 16) = hlevel props in
    let short_prop : IsProp (b.len ≤ 16) = hlevel props in
    let zeros_prop : IsProp (drop b.len b.text ≡ replicate (16 - b.len) 0) = hlevel props in
    let whole : PathP (λ i. length (f i) ≡ 16) a.whole b.whole = to_path_p (λ i. length (f i) ≡ 16) (whole_prop _ _) in
    let short : PathP (λ i. e i ≤ 16) a.short b.short = to_path_p (λ i. e i ≤ 16) (short_prop _ _) in
    let zeros : PathP (λ i. drop (e i) (f i) ≡ replicate (16 - e i) 0) a.zeros b.zeros =
    to_path_p (λ i. drop (e i) (f i) ≡ replicate (16 - e i) 0) (zeros_prop _ _) in
    λ i. record { len = e i; text = f i; whole = whole i; short = short i; zeros = zeros i }

label_text : (l : Label) → name l ++ replicate (16 - l.len) 0 ≡ l.text
label_text l = ap (λ rest. name l ++ rest) (sym l.zeros) ∙ take-append-drop l.len l.text

label_length : (l : Label) → length (name l) ≡ l.len
label_length l = let short : l.len ≤ 16 = l.short in omega (arith, l.whole, length-take l.len l.text)

pub label_once : Once LabelInForm name
label_once a b ha hb e =
    let len : a.len ≡ b.len = sym (label_length a) ∙ (ap length e ∙ label_length b) in
    let padded : name a ++ replicate (16 - a.len) 0 ≡ name b ++ replicate (16 - b.len) 0 = λ i. e i ++ replicate (16 - len i) 0 in
    same_label a b len (sym (label_text a) ∙ (padded ∙ label_text b))

pub parent_lacks : (k : ℕ) → IsApart k → Lacks k ParentInForm parent_text
parent_lacks k apart None fits = or_from (45 == k) false apart.dash refl
parent_lacks k apart (Some l) fits = label_lacks k apart l fits

no_dash : (l : Label) → LabelInForm l → codes "-" ≢ name l
no_dash l fits e = both_ways (is_label (codes "-")) refl (subst (λ bs. is_label bs ≡ true) (sym e) fits)

pub parent_once : Once ParentInForm parent_text
parent_once None None ha hb e = refl
parent_once None (Some l) ha hb e = absurd (no_dash l hb e)
parent_once (Some l) None ha hb e = absurd (no_dash l ha (sym e))
parent_once (Some l) (Some m) ha hb e = ap (λ x. Some x) (label_once l m ha hb e)

-- Bytes as digits.
hex_digit_sign : (n : ℕ) → n < 16 → (is_letter (hex_digit n) || is_digit (hex_digit n)) ≡ true
hex_digit_sign n small = ⊎_elim
    (λ (low : nat_lt n 10 ≡ true). subst (λ t. (is_letter (if t then 48 + n else 87 + n) || is_digit (if t then 48 + n else 87 + n)) ≡ true) (sym low) (grind (arith, nat_tests)))
    (λ (high : nat_lt n 10 ≡ false). subst (λ t. (is_letter (if t then 48 + n else 87 + n) || is_digit (if t then 48 + n else 87 + n)) ≡ true) (sym high) (grind (arith, nat_tests)))
    (cases_Bool (nat_lt n 10))

pair_lacks_byte : (k : ℕ) → IsApart k → (b : ℕ) → b < 256 → has_byte k (hex_pair b) ≡ false
pair_lacks_byte k apart b small =
    or_from (hex_digit (b / 16) == k) _ (sign_lacks k (hex_digit (b / 16)) apart (hex_digit_sign (b / 16) (omega arith)))
    (or_from (hex_digit (b % 16) == k) false (sign_lacks k (hex_digit (b % 16)) apart (hex_digit_sign (b % 16) (omega arith))) refl)

pairs_lack : (k : ℕ) → IsApart k → (bs : List ℕ) → AreBytes bs → has_byte k (flat_map hex_pair bs) ≡ false
pairs_lack k apart [] fits = refl
pairs_lack k apart (b ∷ bs) fits =
    lacks_both k (hex_pair b) (flat_map hex_pair bs) (pair_lacks_byte k apart b fits.0) (pairs_lack k apart bs fits.1)

pub hex_lacks : (k : ℕ) → IsApart k → Lacks k AreBytes hex
hex_lacks k apart [] fits = or_from (45 == k) false apart.dash refl
hex_lacks k apart (b ∷ bs) fits =
    lacks_both k (hex_pair b) (flat_map hex_pair bs) (pair_lacks_byte k apart b fits.0) (pairs_lack k apart bs fits.1)

hex_digit_once : (m n : ℕ) → m < 16 → n < 16 → hex_digit m ≡ hex_digit n → m ≡ n
hex_digit_once m n hm hn e = grind (arith, nat_tests)

byte_once : (a b : ℕ) → a < 256 → b < 256 → hex_digit (a / 16) ≡ hex_digit (b / 16) → hex_digit (a % 16) ≡ hex_digit (b % 16) → a ≡ b
byte_once a b ha hb high low =
    let sixteens = hex_digit_once (a / 16) (b / 16) (omega arith) (omega arith) high in
    let ones = hex_digit_once (a % 16) (b % 16) (omega arith) (omega arith) low in
    omega arith

pairs_once : (xs ys : List ℕ) → AreBytes xs → AreBytes ys → flat_map hex_pair xs ≡ flat_map hex_pair ys → xs ≡ ys
pairs_once [] [] hx hy e = refl
pairs_once [] (y ∷ ys) hx hy e = absurd cc
pairs_once (x ∷ xs) [] hx hy e = absurd cc
pairs_once (x ∷ xs) (y ∷ ys) hx hy e =
    let high : hex_digit (x / 16) ≡ hex_digit (y / 16) = cc in
    let low : hex_digit (x % 16) ≡ hex_digit (y % 16) = cc in
    let rest : flat_map hex_pair xs ≡ flat_map hex_pair ys = cc in
    let head = byte_once x y hx.0 hy.0 high low in
    let tail = pairs_once xs ys hx.1 hy.1 rest in
    λ i. head i ∷ tail i

no_dash_pair : (b : ℕ) (bs : List ℕ) → b < 256 → codes "-" ≢ hex_pair b ++ bs
no_dash_pair b bs small e =
    let first : 45 ≡ hex_digit (b / 16) = cc in
    both_ways (is_letter 45 || is_digit 45) refl (subst (λ n. (is_letter n || is_digit n) ≡ true) (sym first) (hex_digit_sign (b / 16) (omega arith)))

pub hex_once : Once AreBytes hex
hex_once [] [] hx hy e = refl
hex_once [] (y ∷ ys) hx hy e = absurd (no_dash_pair y (flat_map hex_pair ys) hy.0 e)
hex_once (x ∷ xs) [] hx hy e = absurd (no_dash_pair x (flat_map hex_pair xs) hx.0 (sym e))
hex_once (x ∷ xs) (y ∷ ys) hx hy e = pairs_once (x ∷ xs) (y ∷ ys) hx hy e

-- Words of a few.
pub known_once : {K : Type 0} (word : K → List ℕ) (every : List K) → IsKnown word every → (j k : K) → word j ≡ word k → j ≡ k
known_once word every known j k e =
    let found : Some j ≡ Some k = sym (known j) ∙ (ap (λ bs. find (λ l. bytes_eq (word l) bs) every) e ∙ known k) in
    cc

-- what was found passes a test that all pass
found_passes : {K : Type 0} (q p : K → Bool) (every : List K) (k : K) → find q every ≡ Some k → list_all p every ≡ true → p k ≡ true
found_passes q p [] k e h = absurd cc
found_passes q p (x ∷ xs) k e h =
    let parts = and_parts (p x) (list_all p xs) h in
    ⊎_elim
    (λ (yes : q x ≡ true). let here : Some x ≡ Some k = sym (ap (λ t. if t then Some x else find q xs) yes) ∙ e in let same : x ≡ k =
    cc in subst (λ y. p y ≡ true) same parts.0)
    (λ (no : q x ≡ false). found_passes q p xs k (sym (ap (λ t. if t then Some x else find q xs) no) ∙ e) parts.1)
    (cases_Bool (q x))

pub known_passes : {K : Type 0} (word : K → List ℕ) (every : List K) → IsKnown word every → (p : K → Bool) → list_all p every ≡ true →
    (k : K) → p k ≡ true
known_passes word every known p h k = found_passes (λ j. bytes_eq (word j) (word k)) p every k (known k) h
