-- What is found among all rows of a table, and among those on an object.
use Rattle.arj_law_parts.proofs.Words
use Words.{◌≡◌, ◌∙◌, List, [], ◌∷◌, Bool, true, false, cond, refl, ap, list_any, ◌||◌, or_right, Row, uid_eq, Uid}
use Rattle.arj_law_serial.proofs.Terms.{rows_on}

-- what is found among some of the rows is found among all
any_of : (test : Row → Bool) (o : Uid) (rows : List Row) → list_any test (rows_on o rows) ≡ true → list_any test rows ≡ true
any_of test o [] is = is
any_of test o (r ∷ rs) is = by (uid_eq r.object o) (any_of test o rs) is
  where
    either_on : (t : Bool) → (list_any test (rows_on o rs) ≡ true → list_any test rs ≡ true) → (t || list_any test (rows_on o rs)) ≡ true →
        (t || list_any test rs) ≡ true
    either_on true ih h = refl
    either_on false ih h = ih h

    by : (b : Bool) → (list_any test (rows_on o rs) ≡ true → list_any test rs ≡ true) →
        list_any test (cond b (r ∷ rows_on o rs) (rows_on o rs)) ≡ true → (test r || list_any test rs) ≡ true
    by true ih h = either_on (test r) ih h
    by false ih h = or_right (test r) (list_any test rs) (ih h)

-- so it is of what nodes hold, where tables show it
pub any_shown : (test : Row → Bool) (o : Uid) (rows shown : List Row) → rows_on o rows ≡ shown → list_any test shown ≡ true →
    list_any test rows ≡ true
any_shown test o rows shown same is = any_of test o rows (ap (list_any test) same ∙ is)
