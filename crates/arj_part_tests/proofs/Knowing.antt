-- No call of a store makes it know other objects than those of its states.
use Rattle.std.proofs.Common.{◌≡◌, ◌⊎◌, List, ⊎_elim, inl, inr, map, subst, sym}
use Rattle.std.specs.Prelude.{Contains}
use Rattle.arj_base.specs.declared.state.ObjectState.{ObjectState}
use Rattle.arj_base.specs.declared.uid.Uid.{Uid}
use Rattle.arj_disk.specs.FileMap.{FileMap}
use Rattle.arj_disk.specs.Says.{names}
use Rattle.arj_disk.specs.declared.slot.Role.{Role}
use Rattle.arj_part_tests.specs.Known.{KnowsOurs, ours}
use Rattle.arj_store.specs.Pair.{Adds, AnswersPrepare, HasOnly, IsKnown, Pair, Prepares, SamePair, uid_of}
use Rattle.arj_store.specs.declared.answer.Prep.{Prep}
use Rattle.arj_store.specs.declared.answer.Prep.TheVariants.{Prepared, Already, Old, InDoubt}

module _ (role : Role) (p q : Pair) (act : Uid) (states : List ObjectState) (same : SamePair p q → (u : Uid) → IsKnown q u → IsKnown p u)
    (adds : Adds p q act states → (u : Uid) → IsKnown q u → IsKnown p u ⊎ Contains (map uid_of states) u)
    (mine : (u : Uid) → Contains (map uid_of states) u → Contains (ours role) u) (knows : KnowsOurs role p) where
  pub in_part : SamePair p q ⊎ Prepares p q act states → KnowsOurs role q
  in_part (inl s) u h = knows u (same s u h)
  in_part (inr r) u h = ⊎_elim (knows u) (mine u) (adds r.adds u h)

  pub answered : (answer : Prep) → AnswersPrepare p q act states answer → KnowsOurs role q
  answered Prepared (inl s) = in_part (inl s.1)
  answered Prepared (inr r) = in_part (inr r)
  answered (Already uid by) a = in_part (inl a.2)
  answered (Old uid version) a = in_part (inl a.2)
  answered (InDoubt uid holder) a = in_part (inl a.2)

-- and a format begins with these
pub begun : (role : Role) (p : Pair) (states : List ObjectState) → HasOnly p states
    → ((u : Uid) → Contains (map uid_of states) u → Contains (ours role) u) → KnowsOurs role p
begun role p states only mine u (inl held) = mine u (only.others u held)
begun role p states only mine u (inr (a, named)) = absurd (subst (λ o. names o u) (only.none a) named)

-- what is known by other words for the same files and the same role
pub known_at : (pair : FileMap → Role → Pair) (role own : Role) (old now : FileMap) → own ≡ role → now ≡ old
    → KnowsOurs role (pair old role) → KnowsOurs role (pair now own)
known_at pair role own old now is same = subst (λ (k : FileMap × Role). KnowsOurs role (pair k.0 k.1)) (λ i. (sym same i, sym is i))

pub known_for : (pair : FileMap → Role → Pair) (role own : Role) (now : FileMap) → own ≡ role
    → KnowsOurs role (pair now own) → KnowsOurs role (pair now role)
known_for pair role own now is = subst (λ r. KnowsOurs role (pair now r)) is

pub formed_at : (formed : FileMap → Role → Type 0) (role own : Role) (old now : FileMap) → own ≡ role → now ≡ old
    → formed old role → formed now own
formed_at formed role own old now is same = subst (λ (k : FileMap × Role). formed k.0 k.1) (λ i. (sym same i, sym is i))

-- what is known once more files are left, by any relation of the files before and behind that carries it
pub carried : (pair : FileMap → Role → Pair) (role own : Role) (old now left : FileMap) → own ≡ role → now ≡ old
    → KnowsOurs role (pair old role) → (R : Pair → Pair → Type 0)
    → ((p q : Pair) → R p q → KnowsOurs role p → KnowsOurs role q) → R (pair now own) (pair left own) → KnowsOurs role (pair left role)
carried pair role own old now left is same was R carries r =
    known_for pair role own left is (carries (pair now own) (pair left own) r (known_at pair role own old now is same was))
