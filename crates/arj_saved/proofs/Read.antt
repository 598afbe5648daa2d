-- A file that is read row by row.
use Rattle.std.proofs.Common.{◌≡◌, ◌<◌, ◌≤◌, ℕ, zero, suc, ◌+◌, ◌-◌, List, [], ◌∷◌, ◌++◌, Bool, true, false, ◌&&◌, ◌||◌, refl, sym, ◌∙◌, ap, arith}
use Rattle.std.specs.Prelude.{not}
use Rattle.arj_base.specs.State.{StateInForm, state_bytes}
use Rattle.arj_base.specs.Uid.{uid_eq}
use Rattle.arj_base.specs.declared.state.ObjectState.{ObjectState}
use Rattle.arj_base.specs.declared.uid.Uid.{Uid}
use Rattle.arj_saved.specs.Rows.{are_rows, has_uid, is_end, is_packed, names_uid}
use Rattle.arj_segment_file.proofs.Read.{keyed_is}
use Rattle.arj_segment_file.specs.Format.{first_in, has_row, keyed, rest_in}
use Rattle.arj_store.specs.Pair.{packed}

-- the Uids of states, packed or not
has_is : (ss : List ObjectState) (u : Uid) → has_uid (packed ss) u ≡ names_uid ss u
has_is [] u = refl
has_is (s ∷ ss) u = ap (λ b. uid_eq s.uid u || b) (has_is ss u)

pub push_packed : (ss : List ObjectState) (s : ObjectState) → packed (ss ++ s ∷ []) ≡ packed ss ++ (s.uid, state_bytes s) ∷ []
push_packed [] s = refl
push_packed (t ∷ ss) s = ap (λ es. (t.uid, state_bytes t) ∷ es) (push_packed ss s)

-- ---- one row

row_step : (n : ℕ) (bytes : List ℕ) (before : List (Uid × List ℕ)) → are_rows (suc n) bytes before
    ≡ (has_row bytes && (is_packed (first_in bytes) && (not (has_uid before (let e = keyed (first_in bytes) in e.0))
    && are_rows n (rest_in bytes) (before ++ keyed (first_in bytes) ∷ []))))
unfolding are_rows
row_step n bytes before = refl

rows_none : (bytes : List ℕ) (before : List (Uid × List ℕ)) → are_rows zero bytes before ≡ is_end bytes
unfolding are_rows
rows_none bytes before = refl

left_is : (count row : ℕ) → row < count → count - row ≡ suc (count - (row + 1))
left_is count row within = omega (arith, within)

none_left : (count row : ℕ) → count ≤ row → count - row ≡ 0
none_left count row all = omega (arith, all)

module _ (count row : ℕ) (rest : List ℕ) (states : List ObjectState) (all : Bool) (test : are_rows (count - row) rest (packed states) ≡ all) where
  pub at_end : count ≤ row → is_end rest ≡ all
  at_end done = sym (ap (λ n. are_rows n rest (packed states)) (none_left count row done) ∙ rows_none rest (packed states)) ∙ test

  module _ (within : row < count) where
    opened : all ≡ (has_row rest && (is_packed (first_in rest) && (not (has_uid (packed states) (let e = keyed (first_in rest) in e.0))
        && are_rows (count - (row + 1)) (rest_in rest) (packed states ++ keyed (first_in rest) ∷ []))))
    opened = sym test ∙ ap (λ n. are_rows n rest (packed states)) (left_is count row within) ∙ row_step (count - (row + 1)) rest (packed states)

    both_false : (a b : Bool) → b ≡ false → (a && b) ≡ false
    both_false true b e = e
    both_false false b e = refl

    pub no_row : has_row rest ≡ false → all ≡ false
    no_row gone = opened ∙ (λ i. gone i && (is_packed (first_in rest) && (not (has_uid (packed states) (let e = keyed (first_in rest) in e.0))
        && are_rows (count - (row + 1)) (rest_in rest) (packed states ++ keyed (first_in rest) ∷ []))))

    pub no_state : is_packed (first_in rest) ≡ false → all ≡ false
    no_state bad = opened ∙ both_false (has_row rest) _ ((λ i. bad i && (not (has_uid (packed states) (let e = keyed (first_in rest) in e.0))
        && are_rows (count - (row + 1)) (rest_in rest) (packed states ++ keyed (first_in rest) ∷ []))))

    module _ (s : ObjectState) (form : StateInForm s) (is : first_in rest ≡ state_bytes s) where
      key : keyed (first_in rest) ≡ (s.uid, state_bytes s)
      key = ap keyed is ∙ keyed_is s form

      named : has_uid (packed states) (let e = keyed (first_in rest) in e.0) ≡ names_uid states s.uid
      named = (λ i. has_uid (packed states) (let e = key i in e.0)) ∙ has_is states s.uid

      pub twice : names_uid states s.uid ≡ true → all ≡ false
      twice again = opened ∙ both_false (has_row rest) _ (both_false (is_packed (first_in rest)) _
          ((λ i. not ((named ∙ again) i) && are_rows (count - (row + 1)) (rest_in rest) (packed states ++ keyed (first_in rest) ∷ []))))

      pub more : has_row rest ≡ true → is_packed (first_in rest) ≡ true → names_uid states s.uid ≡ false →
          are_rows (count - (row + 1)) (rest_in rest) (packed (states ++ s ∷ [])) ≡ all
      more there good new = ap (are_rows (count - (row + 1)) (rest_in rest)) (push_packed states s ∙ (λ i. packed states ++ sym key i ∷ []))
          ∙ sym ((λ i. there i && (good i && (not ((named ∙ new) i) && are_rows (count - (row + 1)) (rest_in rest) (packed states ++ keyed (first_in rest) ∷ []))))) ∙ sym opened
