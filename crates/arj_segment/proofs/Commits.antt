-- A commit and its merge, one after the other; and what is answered from what is kept.
use Rattle.std.proofs.Common.{◌≡◌, ◌≤◌, ◌⊎◌, ◌∙◌, ℕ, List, subst, inl, inr, ⊎_elim, length, Option, Some, None}
use Rattle.std.specs.Prelude.{MatchOption}
use Rattle.arj_base.specs.declared.uid.Uid.{Uid}
use Rattle.arj_disk.specs.FileMap.{FileMap}
use Rattle.arj_disk.specs.Says.{names}
use Rattle.arj_disk.specs.declared.slot.Role.{Role}
use Rattle.arj_store.specs.Pair.{Moves, MovesSome, Pair, SamePair}
use Rattle.arj_segment.specs.Kept.{Keeps}
use Rattle.arj_segment.specs.Steps.{HasAtMost}
use Rattle.arj_segment.specs.Tables.{KeepsPend}
use Rattle.arj_segment.specs.declared.kept.Kept.{Kept}

pub moves_then : (p q r : Pair) (act : Uid) → Moves p q act → SamePair q r → Moves p r act
moves_then p q r act moves same = record {
  committed = λ u. same.committed u ∙ moves.committed u;
  gone = same.prepared act ∙ moves.gone;
  others = λ a other. same.prepared a ∙ moves.others a other;
}

pub none_moved : (p q : Pair) (act : Uid) → SamePair p q → MovesSome p q act
none_moved p q act same = record { committed = λ u. inl (same.committed u); prepared = same.prepared }

pub whole_or_none : (p q : Pair) (act : Uid) → SamePair p q ⊎ Moves p q act → MovesSome p q act ⊎ Moves p q act
whole_or_none p q act = ⊎_elim (λ (same : SamePair p q). inl (none_moved p q act same)) (λ (moves : Moves p q act). inr moves)

pub at_most : (n : ℕ) (role : Role) (kept : Kept) (file : FileMap) → Keeps role kept file → length kept.numbers ≤ n → HasAtMost n file role
at_most n role kept file keeps few = (kept.numbers, few, keeps.committed.numbers_are.there)

module _ (pend : Uid → Option (List (Uid × List ℕ))) (actions : Uid → Option (List Uid)) (holdings : Uid →
    Option Uid) (keeps : KeepsPend pend actions holdings) where
  pub holder_is : (u a : Uid) → holdings u ≡ Some a → names (pend a) u
  holder_is u a is = subst (λ h. MatchOption h ((a : Uid) → names (pend a) u → ⊥) (λ a. names (pend a) u)) is (keeps.holders_are u)

  pub no_holder : (u : Uid) → holdings u ≡ None → ((a : Uid) × names (pend a) u) → ⊥
  no_holder u is doubt =
      subst (λ h. MatchOption h ((a : Uid) → names (pend a) u → ⊥) (λ a. names (pend a) u)) is (keeps.holders_are u) doubt.0 doubt.1
