-- Objects stay in form, and by number, where one more goes among them.
use Rattle.std.proofs.Common.{◌≡◌, ℕ, ◌≤◌, ◌<◌, List, [], ◌∷◌, true, false, refl, ◌∙◌, ap, arith, ⊎_elim}
use Rattle.std.specs.Prelude.{nat_lt, if◌then◌else◌, ◌==◌}
use Rattle.std.specs.List.{AllByRecursion}
use Rattle.std.proofs.lemmas.Bool.{and_parts, and_from, or_parts, cases_Bool, cond-true, cond-false, ltb-false, lt-ltb, eqb-false}
use Rattle.arj_base.specs.declared.state.Format.{Format}
use Rattle.arj_class.specs.Forms.{FormatHolds}
use Rattle.arj_journal.specs.declared.header.ObjectLine.{ObjectLine}
use Rattle.arj_journal.specs.ScriptForm.{AreHeld, ObjectLineInForm, ObjectsInForm, are_by_number}
use Rattle.arj_script.specs.Grammar.{has_object, insert_object}

insert_all : (n : ℕ) (o : ObjectLine) (os : List ObjectLine) → ObjectLineInForm n o → AllByRecursion (ObjectLineInForm n) os →
    AllByRecursion (ObjectLineInForm n) (insert_object o os)
insert_all n o [] one all = (one, tt)
insert_all n o (p ∷ os) one all =
    let later = insert_all n o os one all.1 in
    elim (nat_lt o.x p.x) as (λ t. AllByRecursion (ObjectLineInForm n) (if t then o ∷ p ∷ os else p ∷ insert_object o os))
    [ true ↦ (one, all) | false ↦ (all.0, later) ]

rising_tail : (p : ObjectLine) (os : List ObjectLine) → are_by_number (p ∷ os) ≡ true → are_by_number os ≡ true
rising_tail p [] h = refl
rising_tail p (q ∷ os) h = (and_parts (nat_lt p.x q.x) (are_by_number (q ∷ os)) h).1

rising_behind : (p o : ObjectLine) (os : List ObjectLine) → nat_lt p.x o.x ≡ true → are_by_number (p ∷ os) ≡ true →
    are_by_number (insert_object o os) ≡ true → are_by_number (p ∷ insert_object o os) ≡ true
rising_behind p o [] less rising on = and_from (nat_lt p.x o.x) true less refl
rising_behind p o (q ∷ os) less rising on =
    split on
  where
    first : nat_lt p.x q.x ≡ true
    first = (and_parts (nat_lt p.x q.x) (are_by_number (q ∷ os)) rising).0

    split : are_by_number (insert_object o (q ∷ os)) ≡ true → are_by_number (p ∷ insert_object o (q ∷ os)) ≡ true
    split =
        elim (nat_lt o.x q.x) as (λ t. are_by_number (if t then o ∷ q ∷ os else q ∷ insert_object o os) ≡ true →
        are_by_number (p ∷ (if t then o ∷ q ∷ os else q ∷ insert_object o os)) ≡ true)
        [ true ↦ λ h. and_from (nat_lt p.x o.x) (are_by_number (o ∷ q ∷ os)) less h | false ↦ λ h. and_from (nat_lt p.x q.x) (are_by_number (q ∷ insert_object o os)) first h ]

pub rising_insert : (o : ObjectLine) (os : List ObjectLine) → are_by_number os ≡ true → has_object o.x os ≡ false →
    are_by_number (insert_object o os) ≡ true
rising_insert o [] rising absent = refl
rising_insert o (p ∷ os) rising absent =
    let parts = or_parts (p.x == o.x) (has_object o.x os) absent in
    let on = rising_insert o os (rising_tail p os rising) parts.1 in
    ⊎_elim
    (λ less. ap are_by_number (cond-true (nat_lt o.x p.x) (o ∷ p ∷ os) (p ∷ insert_object o os) less) ∙ and_from (nat_lt o.x p.x) (are_by_number (p ∷ os)) less rising)
    (λ more.
    let most : p.x ≤ o.x = ltb-false o.x p.x more in
    let below : p.x < o.x = omega (arith, most, eqb-false p.x o.x parts.0) in
    ap are_by_number (cond-false (nat_lt o.x p.x) (o ∷ p ∷ os) (p ∷ insert_object o os) more) ∙ rising_behind p o os (lt-ltb p.x o.x below) rising on)
    (cases_Bool (nat_lt o.x p.x))

pub insert_held : (f : Format) (o : ObjectLine) (os : List ObjectLine) → FormatHolds f o.value → AreHeld f os → AreHeld f (insert_object o os)
insert_held f o [] one all = (one, tt)
insert_held f o (p ∷ os) one all =
    let later = insert_held f o os one all.1 in
    elim (nat_lt o.x p.x) as (λ t. AreHeld f (if t then o ∷ p ∷ os else p ∷ insert_object o os))
    [ true ↦ (one, all) | false ↦ (all.0, later) ]

pub insert_in_form : (n : ℕ) (o : ObjectLine) (os : List ObjectLine) → ObjectLineInForm n o → has_object o.x os ≡ false →
    ObjectsInForm n os → ObjectsInForm n (insert_object o os)
insert_in_form n o os one absent all = (insert_all n o os one all.0, rising_insert o os all.1 absent)
