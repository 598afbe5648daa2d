-- Which object a line declares.
use Rattle.std.proofs.Common.{◌≡◌, ◌≢◌, ℕ, ◌*◌, ◌≤◌, ◌<◌, ◌^◌, List, [], ◌∷◌, ◌++◌, length, codes, true, false, Some, sym, ◌∙◌, ap, subst, arith}
use Rattle.std.proofs.Common.{append_assoc, refl}
use Rattle.std.specs.Fmt.{decimal}
use Rattle.std.proofs.lemmas.Bool.{both_ways}
use Rattle.std.specs.List.{flat_map}
use Rattle.std.proofs.lemmas.Fmt.{decimal_injective}
use Rattle.arj_base.specs.declared.state.Class.TheVariants as class
use Rattle.arj_base.specs.declared.state.Format.{Format}
use Rattle.arj_base.specs.declared.state.Format.TheVariants as format
use Rattle.arj_class.specs.Forms.{FormatHolds, register_bytes_of}
use Rattle.arj_class.specs.declared.value.Value.{Value}
use Rattle.arj_class.specs.declared.value.Value.TheVariants as value
use Rattle.arj_journal.specs.declared.header.ObjectLine.{ObjectLine}
use Rattle.arj_text.specs.Fields.{IsRead}
use Rattle.arj_journal.specs.ScriptText.{object_text}
use Rattle.arj_text.specs.Words.{hex, hex_pair, list_text, value_text}
use Rattle.arj_text.proofs.Spaceless.{value_cut, value_words}
use Rattle.arj_text.proofs.Texts.{cut_once, digits_only, same_rest}
use Rattle.arj_journal.specs.ScriptForm.{ObjectLineInForm}
use Rattle.arj_script.specs.Grammar.{has_object}

-- what stands behind the number of an object line
abbrev fields_of : ObjectLine → List ℕ
fields_of o = value_text o.value ++ (codes " servers " ++ (list_text o.servers ++ (codes " stores " ++ list_text o.stores)))

-- what two lines of objects with one text have behind their numbers
same_fields : (n : ℕ) (o p : ObjectLine) → ObjectLineInForm n o → ObjectLineInForm n p → object_text o ≡ object_text p →
    (o.x ≡ p.x) × (fields_of o ≡ fields_of p)
same_fields n o p o_form p_form same =
    let ox : o.x ≤ 256 = o_form.number.1 in
    let px : p.x ≤ 256 = p_form.number.1 in
    let o_small : o.x < 2 ^ 64 = omega arith in
    let p_small : p.x < 2 ^ 64 = omega arith in
    let rests = same_rest (codes "object ") (decimal o.x ++ 32 ∷ fields_of o) (decimal p.x ++ 32 ∷ fields_of p) same in
    let cuts = cut_once 32 (decimal o.x) (decimal p.x) (fields_of o) (fields_of p) (digits_only 32 o.x refl o_small) (digits_only 32 p.x refl p_small) rests in
    (decimal_injective o.x p.x o_small p_small cuts.0, cuts.1)

-- An object line declares one number.
pub same_number : (n : ℕ) (o p : ObjectLine) → ObjectLineInForm n o → ObjectLineInForm n p → object_text o ≡ object_text p → o.x ≡ p.x
same_number n o p o_form p_form same = (same_fields n o p o_form p_form same).0

-- and one value
same_value : (n : ℕ) (o p : ObjectLine) → ObjectLineInForm n o → ObjectLineInForm n p → object_text o ≡ object_text p →
    value_text o.value ≡ value_text p.value
same_value n o p o_form p_form same =
    let two = value_words o.value o_form.value in
    let rest = codes "servers " ++ (list_text o.servers ++ (codes " stores " ++ list_text o.stores)) in
    let others = codes "servers " ++ (list_text p.servers ++ (codes " stores " ++ list_text p.stores)) in
    let parts : fields_of o ≡ two.class ++ 32 ∷ (two.word ++ 32 ∷ rest) =
    ap (λ t. t ++ 32 ∷ rest) two.is ∙ append_assoc two.class (32 ∷ two.word) (32 ∷ rest) in
    two.is ∙ (value_cut (fields_of o) two.class (two.word ++ 32 ∷ rest) two.word rest p.value others two.class_whole parts two.word_whole refl p_form.value (same_fields n o p o_form p_form same).1).0

-- bytes with the same digits are as many
pairs_length : (bs : List ℕ) → length (flat_map hex_pair bs) ≡ 2 * length bs
pairs_length [] = refl
pairs_length (b ∷ bs) = omega (arith, pairs_length bs)

same_length : (bs cs : List ℕ) → hex bs ≡ hex cs → length bs ≡ length cs
same_length [] [] e = refl
same_length [] (c ∷ cs) e = absurd (omega (arith, ap length e, pairs_length (c ∷ cs)))
same_length (b ∷ bs) [] e = absurd (omega (arith, ap length e, pairs_length (b ∷ bs)))
same_length (b ∷ bs) (c ∷ cs) e = omega (arith, ap length e, pairs_length (b ∷ bs), pairs_length (c ∷ cs))

-- `gone` has the digits of two bytes at most
two_bytes : (f : Format) (bs : List ℕ) → codes "gone" ≡ hex bs → length bs ≤ register_bytes_of f
two_bytes f [] e = absurd (omega (arith, ap length e))
two_bytes format.One (b ∷ bs) e = omega (arith, ap length e, pairs_length (b ∷ bs))
two_bytes format.Two (b ∷ bs) e = omega (arith, ap length e, pairs_length (b ∷ bs))

-- the first letter
abbrev first : List ℕ → ℕ
first [] = 0
first (b ∷ bs) = b

-- Of two values with one text a state holds both or none.
held_by_text : (f : Format) (v w : Value) → value_text v ≡ value_text w → FormatHolds f v → FormatHolds f w
held_by_text f v (value.Register bs) e held = by v e (ap first e) held
  where
    by : (v : Value) → value_text v ≡ value_text (value.Register bs) → first (value_text v) ≡ 114 → FormatHolds f v →
        length bs ≤ register_bytes_of f
    by (value.Register cs) e _ held = omega (arith, held, same_length cs bs (same_rest (codes "register ") (hex cs) (hex bs) e))
    by (value.Gone class.Register) e _ held = two_bytes f bs (same_rest (codes "register ") (codes "gone") (hex bs) e)
    by _ e l held = absurd (omega (arith, l))
held_by_text f v _ e held = tt

-- An object whose value no state of the format holds fits nowhere.
pub not_held : (n : ℕ) (f : Format) (bytes : List ℕ) (o p : ObjectLine) → IsRead (ObjectLineInForm n) object_text bytes (Some o) →
    (FormatHolds f o.value → ⊥) → ObjectLineInForm n p → FormatHolds f p.value → bytes ≢ object_text p
not_held n f bytes o p read never fits held same =
    never (held_by_text f p.value o.value (sym (same_value n o p read.0 fits (sym read.1 ∙ same))) held)

-- An object whose number was declared fits nowhere.
pub declared_twice : (n : ℕ) (bytes : List ℕ) (os : List ObjectLine) (o p : ObjectLine) →
    IsRead (ObjectLineInForm n) object_text bytes (Some o) → has_object o.x os ≡ true → ObjectLineInForm n p → has_object p.x os ≡ false →
    bytes ≢ object_text p
declared_twice n bytes os o p read there fits free same =
    both_ways (has_object p.x os) free (subst (λ x. has_object x os ≡ true) (same_number n o p read.0 fits (sym read.1 ∙ same)) there)
