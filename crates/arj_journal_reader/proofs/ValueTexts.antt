-- The classes and values of objects: which bytes their texts lack, and that no two have one text.
use Rattle.std.proofs.Common.{◌≡◌, ◌≢◌, ℕ, ◌+◌, ◌/◌, ◌<◌, ◌^◌, Bool, List, [], ◌∷◌, ◌++◌, length, map, codes, true, false, refl, sym, ◌∙◌, ap}
use Rattle.std.proofs.Common.{arith, append_assoc}
use Rattle.std.specs.Prelude.{◌==◌, nat_lt, if◌then◌else◌}
use Rattle.std.specs.Fmt.{decimal}
use Rattle.std.specs.List.{AllByRecursion, flat_map, list_all}
use Rattle.std.proofs.lemmas.Bool.{both_ways, or_from}
use Rattle.std.proofs.lemmas.Fmt.{decimal_nonempty}
use Rattle.std.proofs.lemmas.List.{append_cancel_right, append-nil}
use Rattle.arj_base.specs.State.{is_object_class}
use Rattle.arj_base.specs.declared.state.Class.{Class}
use Rattle.arj_base.specs.declared.state.Class.TheVariants as class
use Rattle.arj_class.specs.Table.{is_gone}
use Rattle.arj_class.specs.declared.value.Value.{Value}
use Rattle.arj_class.specs.declared.value.Value.TheVariants as value
use Rattle.arj_journal_reader.proofs.ByKind.{Once, lacks_behind, lacks_both}
use Rattle.arj_journal_reader.proofs.Leaves.{IsApart, hex_lacks, hex_once, letters_lack, number_lacks, number_once}
use Rattle.arj_text.proofs.Items.{items_only}
use Rattle.arj_text.proofs.ListItems.{number_no_comma, number_only, numbers_text_is, pair_no_comma, pair_only, pairs_text_is}
use Rattle.arj_text.proofs.Texts.{digits_only, no_cut, same_rest}
use Rattle.arj_text.specs.Fields.{AreBytes, IsObjectClass, NumberInForm, PairInForm, ValueTextInForm, has_byte, items_text, pair_text}
use Rattle.arj_text.specs.Label.{is_digit, is_letter}
use Rattle.arj_text.specs.Words.{behind_comma, class_text, decimals, gone_text, hex, hex_digit, numbers_text, pair_texts, pairs_text, value_text}

-- no number begins with a byte that is no digit
no_digit : (k n : ℕ) (bytes rest : List ℕ) → is_digit k ≡ false → n < 2 ^ 64 → k ∷ bytes ≢ decimal n ++ rest
no_digit k n bytes rest apart small e = by (decimal n) refl e
  where
    by : (ds : List ℕ) → decimal n ≡ ds → k ∷ bytes ≢ ds ++ rest
    by [] is _ = absurd (omega (arith, decimal_nonempty n small, ap length is))
    by (d ∷ ds) is e =
        let same : k ≡ d = cc in
        no_cut k (decimal n) [] ds (digits_only k n apart small) (is ∙ ap (λ b. b ∷ ds) (sym same))

-- numbers, or a dash for none
numbers_once : (ms ns : List ℕ) → AllByRecursion NumberInForm ms → AllByRecursion NumberInForm ns → numbers_text ms ≡ numbers_text ns →
    ms ≡ ns
numbers_once [] [] hm hn e = refl
numbers_once [] (n ∷ ns) hm hn e = absurd (no_digit 45 n [] (flat_map behind_comma (decimals ns)) refl hn.0 e)
numbers_once (m ∷ ms) [] hm hn e = absurd (no_digit 45 m [] (flat_map behind_comma (decimals ms)) refl hm.0 (sym e))
numbers_once (m ∷ ms) (n ∷ ns) hm hn e =
    items_only NumberInForm decimal number_no_comma number_only (m ∷ ms) (n ∷ ns) hm hn (omega arith) (omega arith)
    (sym (numbers_text_is (m ∷ ms) (omega arith)) ∙ (e ∙ numbers_text_is (n ∷ ns) (omega arith)))

-- pairs begin with a number
no_pairs : (k : ℕ) (bytes : List ℕ) (p : ℕ × ℕ) (ps : List (ℕ × ℕ)) → is_digit k ≡ false → NumberInForm p.0 →
    k ∷ bytes ≢ pairs_text (p ∷ ps)
no_pairs k bytes p ps apart fits e =
    no_digit k p.0 bytes (58 ∷ decimal p.1 ++ flat_map behind_comma (pair_texts ps)) apart fits
    (e ∙ append_assoc (decimal p.0) (58 ∷ decimal p.1) (flat_map behind_comma (pair_texts ps)))

-- pairs, or a dash for none
pairs_once : (ps qs : List (ℕ × ℕ)) → AllByRecursion PairInForm ps → AllByRecursion PairInForm qs → pairs_text ps ≡ pairs_text qs → ps ≡ qs
pairs_once [] [] hp hq e = refl
pairs_once [] (q ∷ qs) hp hq e = absurd (no_pairs 45 [] q qs refl hq.0.0 e)
pairs_once (p ∷ ps) [] hp hq e = absurd (no_pairs 45 [] p ps refl hp.0.0 (sym e))
pairs_once (p ∷ ps) (q ∷ qs) hp hq e =
    items_only PairInForm pair_text pair_no_comma pair_only (p ∷ ps) (q ∷ qs) hp hq (omega arith) (omega arith)
    (sym (pairs_text_is (p ∷ ps) (omega arith)) ∙ (e ∙ pairs_text_is (q ∷ qs) (omega arith)))

-- What stands behind a class isn't `gone`, where the object is there.
number_there : (n : ℕ) → NumberInForm n → codes "gone" ≢ decimal n
number_there n fits e = no_digit 103 n (codes "one") [] refl fits (e ∙ sym (append-nil (decimal n)))

numbers_there : (ns : List ℕ) → AllByRecursion NumberInForm ns → codes "gone" ≢ numbers_text ns
numbers_there [] fits e = absurd cc
numbers_there (n ∷ ns) fits e = no_digit 103 n (codes "one") (flat_map behind_comma (decimals ns)) refl fits.0 e

pairs_there : (ps : List (ℕ × ℕ)) → AllByRecursion PairInForm ps → codes "gone" ≢ pairs_text ps
pairs_there [] fits e = absurd cc
pairs_there (p ∷ ps) fits e = no_pairs 103 (codes "one") p ps refl fits.0.0 e

hex_there : (bs : List ℕ) → AreBytes bs → codes "gone" ≢ hex bs
hex_there [] fits e = absurd cc
hex_there (b ∷ bs) fits e = let first : 103 ≡ hex_digit (b / 16) = cc in by (nat_lt (b / 16) 10) first
  where
    by : (low : Bool) → 103 ≢ (if low then 48 + b / 16 else 87 + b / 16)
    by true is = absurd (omega arith)
    by false is = absurd (omega (arith, fits.0))

-- the first letter
abbrev first : List ℕ → ℕ
first [] = 0
first (b ∷ bs) = b

-- values of objects that are there
there_once : (v w : Value) → is_gone v ≡ false → ValueTextInForm v → ValueTextInForm w → value_text v ≡ value_text w → v ≡ w
there_once (value.Counter n) w there hv hw e = by w hw e (ap first e)
  where
    by : (w : Value) → ValueTextInForm w → value_text (value.Counter n) ≡ value_text w → 99 ≡ first (value_text w) → value.Counter n ≡ w
    by (value.Counter m) hw e _ = ap value.Counter (number_once n m hv hw (same_rest (codes "counter ") (decimal n) (decimal m) e))
    by (value.Gone class.Counter) hw e _ = absurd (number_there n hv (sym (same_rest (codes "counter ") (decimal n) (codes "gone") e)))
    by _ hw e l = absurd (omega (arith, l))
there_once (value.Register bs) w there hv hw e = by w hw e (ap first e)
  where
    by : (w : Value) → ValueTextInForm w → value_text (value.Register bs) ≡ value_text w → 114 ≡ first (value_text w) →
        value.Register bs ≡ w
    by (value.Register cs) hw e _ = ap value.Register (hex_once bs cs hv.1 hw.1 (same_rest (codes "register ") (hex bs) (hex cs) e))
    by (value.Gone class.Register) hw e _ = absurd (hex_there bs hv.1 (sym (same_rest (codes "register ") (hex bs) (codes "gone") e)))
    by _ hw e l = absurd (omega (arith, l))
there_once (value.Account n) w there hv hw e = by w hw e (ap first e)
  where
    by : (w : Value) → ValueTextInForm w → value_text (value.Account n) ≡ value_text w → 97 ≡ first (value_text w) → value.Account n ≡ w
    by (value.Account m) hw e _ = ap value.Account (number_once n m hv hw (same_rest (codes "account ") (decimal n) (decimal m) e))
    by (value.Gone class.Account) hw e _ = absurd (number_there n hv (sym (same_rest (codes "account ") (decimal n) (codes "gone") e)))
    by _ hw e l = absurd (omega (arith, l))
there_once (value.Queue ns) w there hv hw e = by w hw e (ap first e)
  where
    by : (w : Value) → ValueTextInForm w → value_text (value.Queue ns) ≡ value_text w → 113 ≡ first (value_text w) → value.Queue ns ≡ w
    by (value.Queue ms) hw e _ =
        ap value.Queue (numbers_once ns ms hv.1 hw.1 (same_rest (codes "queue ") (numbers_text ns) (numbers_text ms) e))
    by (value.Gone class.Queue) hw e _ =
        absurd (numbers_there ns hv.1 (sym (same_rest (codes "queue ") (numbers_text ns) (codes "gone") e)))
    by _ hw e l = absurd (omega (arith, l))
there_once (value.Table ps) w there hv hw e = by w hw e (ap first e)
  where
    by : (w : Value) → ValueTextInForm w → value_text (value.Table ps) ≡ value_text w → 116 ≡ first (value_text w) → value.Table ps ≡ w
    by (value.Table qs) hw e _ =
        ap value.Table (pairs_once ps qs hv.1 hw.1 (same_rest (codes "table ") (pairs_text ps) (pairs_text qs) e))
    by (value.Gone class.Table) hw e _ = absurd (pairs_there ps hv.1 (sym (same_rest (codes "table ") (pairs_text ps) (codes "gone") e)))
    by _ hw e l = absurd (omega (arith, l))
there_once (value.Gone c) w there hv hw e = absurd (both_ways true there refl)

-- the class whose word begins with this letter
abbrev class_by : ℕ → Class
class_by b =
    if b == 99 then class.Counter
    else (if b == 114 then class.Register else (if b == 97 then class.Account else (if b == 113 then class.Queue else class.Table)))

class_back : (c : Class) → IsObjectClass c → class_by (first (class_text c)) ≡ c
class_back class.Entry fits = absurd (both_ways false refl fits)
class_back class.Gone fits = absurd (both_ways false refl fits)
class_back class.Counter fits = refl
class_back class.Register fits = refl
class_back class.Account fits = refl
class_back class.Queue fits = refl
class_back class.Table fits = refl

pub gone_once : Once IsObjectClass gone_text
gone_once c d hc hd e =
    sym (class_back c hc) ∙ (ap (λ t. class_by (first t)) (append_cancel_right (class_text c) (class_text d) (codes " gone") e)
    ∙ class_back d hd)

pub value_once : Once ValueTextInForm value_text
value_once (value.Gone c) (value.Gone d) hv hw e = ap value.Gone (gone_once c d hv hw e)
value_once (value.Gone c) w hv hw e = sym (there_once w (value.Gone c) refl hw hv (sym e))
value_once v w hv hw e = there_once v w refl hv hw e

-- Items joined by commas lack what each of them lacks.
pub items_lack : {A : Type 0} (k : ℕ) (InForm : A → Type 0) (text : A → List ℕ) → (44 == k) ≡ false →
    ((a : A) → InForm a → has_byte k (text a) ≡ false) → (items : List A) → AllByRecursion InForm items →
    has_byte k (items_text text items) ≡ false
items_lack k InForm text comma each [] all = refl
items_lack {A = A} k InForm text comma each (a ∷ items) all =
    lacks_both k (text a) (flat_map behind_comma (map text items)) (each a all.0) (more items all.1)
  where
    more : (items : List A) → AllByRecursion InForm items → has_byte k (flat_map behind_comma (map text items)) ≡ false
    more [] all = refl
    more (b ∷ bs) all =
        lacks_both k (44 ∷ text b) (flat_map behind_comma (map text bs)) (or_from (44 == k) (has_byte k (text b)) comma (each b all.0))
        (more bs all.1)

dash_lacks : (k : ℕ) → IsApart k → has_byte k (codes "-") ≡ false
dash_lacks k apart = or_from (45 == k) false apart.dash refl

numbers_lack : (k : ℕ) → IsApart k → (ns : List ℕ) → AllByRecursion NumberInForm ns → has_byte k (numbers_text ns) ≡ false
numbers_lack k apart [] fits = dash_lacks k apart
numbers_lack k apart (n ∷ ns) fits =
    ap (has_byte k) (numbers_text_is (n ∷ ns) (omega arith)) ∙
    items_lack k NumberInForm decimal apart.comma (number_lacks k apart) (n ∷ ns) fits

pairs_lack : (k : ℕ) → IsApart k → (58 == k) ≡ false → (ps : List (ℕ × ℕ)) → AllByRecursion PairInForm ps →
    has_byte k (pairs_text ps) ≡ false
pairs_lack k apart colon [] fits = dash_lacks k apart
pairs_lack k apart colon (p ∷ ps) fits =
    ap (has_byte k) (pairs_text_is (p ∷ ps) (omega arith)) ∙
    items_lack k PairInForm pair_text apart.comma
    (λ q h. lacks_behind k 58 (decimal q.0) (decimal q.1) colon (number_lacks k apart q.0 h.0) (number_lacks k apart q.1 h.1))
    (p ∷ ps) fits

class_letters : (c : Class) → list_all is_letter (class_text c) ≡ true
class_letters class.Entry = refl
class_letters class.Counter = refl
class_letters class.Register = refl
class_letters class.Account = refl
class_letters class.Queue = refl
class_letters class.Table = refl
class_letters class.Gone = refl

-- a word of letters, a space, and what lacks the byte
behind_word : (k : ℕ) → IsApart k → (32 == k) ≡ false → (word rest : List ℕ) → list_all is_letter word ≡ true → has_byte k rest ≡ false →
    has_byte k (word ++ 32 ∷ rest) ≡ false
behind_word k apart space word rest letters lacks = lacks_behind k 32 word rest space (letters_lack k apart.letter word letters) lacks

pub value_lacks : (k : ℕ) → IsApart k → (58 == k) ≡ false → (32 == k) ≡ false → (v : Value) → ValueTextInForm v →
    has_byte k (value_text v) ≡ false
value_lacks k apart colon space (value.Counter n) h = behind_word k apart space (codes "counter") (decimal n) refl (number_lacks k apart n h)
value_lacks k apart colon space (value.Register bs) h = behind_word k apart space (codes "register") (hex bs) refl (hex_lacks k apart bs h.1)
value_lacks k apart colon space (value.Account n) h = behind_word k apart space (codes "account") (decimal n) refl (number_lacks k apart n h)
value_lacks k apart colon space (value.Queue ns) h =
    behind_word k apart space (codes "queue") (numbers_text ns) refl (numbers_lack k apart ns h.1)
value_lacks k apart colon space (value.Table ps) h =
    behind_word k apart space (codes "table") (pairs_text ps) refl (pairs_lack k apart colon ps h.1)
value_lacks k apart colon space (value.Gone c) h =
    behind_word k apart space (class_text c) (codes "gone") (class_letters c) (letters_lack k apart.letter (codes "gone") refl)
