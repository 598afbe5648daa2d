-- What naming checks before it grants exclusions their locks, and the lock that it granted.
use Rattle.arj_law_parts.proofs.Words
use Words.{◌≡◌, ◌∙◌, ◌&&◌, ◌||◌, ℕ, Bool, true, false, cond, List, [], ◌∷◌}
use Words.{inl, inr, grant_row, stronger, Option, Some, None, refl, sym, ap, list_any, nat_le, option_map, In}
use Words.{uid_same, mode_code, is_row_of, last_uid}
use Words.{Mode, Row, Uid}
use Words.{is_granted}
use Words.{either}
use Words.mode
use Rattle.arj_model.specs.CausePends.{has_some}
use Rattle.arj_model.specs.Last.{is_among}
use Rattle.arj_protocol.specs.Confirm.{first_of_each}
use Rattle.arj_protocol.specs.Copy.{row_for, rows_asked}
use Rattle.arj_protocol.specs.Words.{ConfirmedReply}

-- ---- a lock in mode exclude that naming granted is there

module _ (o : Uid) (us : List Uid) (n : ℕ) where
  raised : (rows : List Row) → is_granted o (last_uid us) mode.Exclude (grant_row (row_for o us n mode.Exclude) rows) ≡ true
  raised [] = λ i. ((uid_same o i && uid_same (last_uid us) i) && true) || false
  raised (r ∷ rs) = by (is_row_of o (last_uid us) r) refl (raised rs)
    where
      strong : (m : Mode) → nat_le 1 (mode_code (stronger m mode.Exclude)) ≡ true
      strong mode.Read = refl
      strong mode.Exclude = refl
      strong mode.Write = refl

      or_more : (a : Bool) {b : Bool} → b ≡ true → (a || b) ≡ true
      or_more true is = refl
      or_more false is = is

      by : (b : Bool) → is_row_of o (last_uid us) r ≡ b →
          is_granted o (last_uid us) mode.Exclude (grant_row (row_for o us n mode.Exclude) rs) ≡ true →
          is_granted o (last_uid us) mode.Exclude (cond b (record r { mode = stronger r.mode mode.Exclude } ∷ rs)
          (r ∷ grant_row (row_for o us n mode.Exclude) rs)) ≡ true
      by true on ih = λ i. (on i && strong r.mode i)
          || list_any (λ z. is_row_of o (last_uid us) z && nat_le (mode_code mode.Exclude) (mode_code z.mode)) rs
      by false off ih = or_more (is_row_of o (last_uid us) r && nat_le (mode_code mode.Exclude) (mode_code r.mode)) ih

  pub asked_granted : (rows : List Row) → is_granted o (last_uid us) mode.Exclude (rows_asked (row_for o us n mode.Exclude) rows) ≡ true
  asked_granted rows = by (is_granted o (last_uid us) mode.Exclude rows) refl
    where
      by : (b : Bool) → is_granted o (last_uid us) mode.Exclude rows ≡ b →
          is_granted o (last_uid us) mode.Exclude (cond b rows (grant_row (row_for o us n mode.Exclude) rows)) ≡ true
      by true on = on
      by false off = raised rows

-- ---- no check fails

pub either_none : {A : Type 0} (a b : Option A) → either a b ≡ None → (a ≡ None) × (b ≡ None)
either_none None b is = (refl, is)
either_none (Some x) b is = absurd (cc is)

pub none_each : {A : Type 0} (f : A → Option ConfirmedReply) (xs : List A) → first_of_each f xs ≡ None → (x : A) → In x xs → f x ≡ None
none_each f [] is x i = absurd i
none_each f (y ∷ ys) is x (inl same) = ap f (sym same) ∙ (either_none (f y) (first_of_each f ys) is).0
none_each f (y ∷ ys) is x (inr i) = none_each f ys (either_none (f y) (first_of_each f ys) is).1 x i

pub none_mapped : {A B : Type 0} (f : A → B) (o : Option A) → option_map f o ≡ None → o ≡ None
none_mapped f None is = refl
none_mapped f (Some a) is = absurd (cc is)

pub some_of : (ns : List ℕ) (s : ℕ) → is_among ns s ≡ true → has_some ns ≡ true
some_of [] s is = absurd (cc is)
some_of (n ∷ ns) s is = refl
