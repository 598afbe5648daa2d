-- A pass leaves no action two rows of one object.
use Rattle.std.proofs.Common.{◌≡◌, ◌⊎◌, ℕ, zero, suc, ◌≤◌, List, [], ◌∷◌, ◌++◌, Bool, true, false, ◌||◌, refl, inl, inr, sym, ◌∙◌, ap}
use Rattle.std.proofs.Common.{subst, arith}
use Rattle.std.specs.List.{list_any}
use Rattle.arj_base.specs.declared.uid.Uid.{Uid}
use Rattle.arj_base.specs.Rows.{Row, is_held_by, pass_rows}
use Rattle.arj_lock.specs.Exclusion.{IsOneEach}
use Rattle.arj_lock.specs.Passing.{count}
use Rattle.arj_lock.proofs.Passes.{nothing_passes}
use Rattle.arj_lock.proofs.Steps.{count_in, step}

-- a row that passes a test, among the others
record Among (p : Row → Bool) (rows : List Row) : Type 0 where
  front : List Row
  row : Row
  rest : List Row
  split : rows ≡ front ++ row ∷ rest
  passes : p row ≡ true

search_row : (p : Row → Bool) (rows : List Row) → (list_any p rows ≡ false) ⊎ Among p rows
search_row p [] = inl refl
search_row p (r ∷ rows) = by (p r) refl (search_row p rows)
  where
    by : (b : Bool) → p r ≡ b → (list_any p rows ≡ false) ⊎ Among p rows → (list_any p (r ∷ rows) ≡ false) ⊎ Among p (r ∷ rows)
    by true e found = inr (record { front = []; row = r; rest = rows; split = refl; passes = e })
    by false e (inl none) = inl (λ i. e i || none i)
    by false e (inr a) =
        inr (record { front = r ∷ a.front; row = a.row; rest = a.rest; split = ap (λ rs. r ∷ rs) a.split; passes = a.passes })

all_pass : (steps : ℕ) (action : Uid) (rows : List Row) → count (is_held_by action) rows ≤ steps → IsOneEach rows →
    IsOneEach (pass_rows action rows)
all_pass zero action rows few one = by (search_row (is_held_by action) rows)
  where
    by : (list_any (is_held_by action) rows ≡ false) ⊎ Among (is_held_by action) rows → IsOneEach (pass_rows action rows)
    by (inl none) = subst IsOneEach (sym (nothing_passes action rows none)) one
    by (inr a) =
        let e = ap (count (is_held_by action)) a.split ∙ count_in (is_held_by action) a.front a.row a.rest a.passes in
        let never : ◌≡◌ {A = ℕ} 0 1 = omega (arith, few, e) in cc
all_pass (suc steps) action rows few one = by (search_row (is_held_by action) rows) (λ new few one. all_pass steps action new few one)
  where
    by : (list_any (is_held_by action) rows ≡ false) ⊎ Among (is_held_by action) rows →
        ((new : List Row) → count (is_held_by action) new ≤ steps → IsOneEach new → IsOneEach (pass_rows action new))
        → IsOneEach (pass_rows action rows)
    by (inl none) more = subst IsOneEach (sym (nothing_passes action rows none)) one
    by (inr a) more =
        let s = step action a.front a.row a.rest (subst IsOneEach a.split one) a.passes in
        let e = ap (count (is_held_by action)) a.split in
        subst IsOneEach (s.1.rows ∙ ap (pass_rows action) (sym a.split)) (more s.0 (omega (arith, few, e, s.1.fewer)) s.1.one_each)

pub one_each_pass : (action : Uid) (rows : List Row) → IsOneEach rows → IsOneEach (pass_rows action rows)
one_each_pass action rows one = all_pass (count (is_held_by action) rows) action rows (omega arith) one
