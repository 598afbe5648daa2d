-- The answer to a read, and what a store answers of what is prepared.
use Rattle.std.proofs.Common.{◌≡◌, ◌∙◌, List, subst, Option, Some, None}
use Rattle.std.specs.Prelude.{MatchOption}
use Rattle.arj_base.specs.declared.state.ObjectState.{ObjectState}
use Rattle.arj_base.specs.declared.uid.Uid.{Uid}
use Rattle.arj_disk.specs.declared.slot.Role.{Role}
use Rattle.arj_disk.specs.FileMap.{FileMap}
use Rattle.arj_disk.specs.Says.{role_of, names}
use Rattle.arj_store.specs.Says.{pend, InDoubt}
use Rattle.arj_store.specs.declared.memory.Holding.{Holding}
use Rattle.arj_store.specs.declared.prepare.Place.TheVariants as place
use Rattle.arj_store.specs.OfFiles.{IsHeld}
use Rattle.arj_store.specs.Recovery.{IsStateAt}
use Rattle.arj_store.specs.Shadow.{Keeps}
use Rattle.arj_store.proofs.Keeping.{holder_named}
use Rattle.arj_store.specs.Named.{held_own}

-- the object is held by this action
pub named_holder : (role : Role) (actions : Uid → Option (List Uid)) (holdings : Uid → Option Holding) (file : FileMap) →
    Keeps role actions holdings file → (u : Uid) (h : Holding) → holdings u ≡ Some h → names (pend file role h.act) u
named_holder role actions holdings file keeps u h is =
    subst (λ o. MatchOption o (InDoubt file role u →
    ⊥) (λ h. names (pend file role h.act) u)) is (holder_named role actions holdings file keeps u)

-- the object is held by none
pub not_in_doubt : (role : Role) (actions : Uid → Option (List Uid)) (holdings : Uid → Option Holding) (file : FileMap) →
    Keeps role actions holdings file → (u : Uid) → holdings u ≡ None → InDoubt file role u → ⊥
not_in_doubt role actions holdings file keeps u is =
    subst (λ o. MatchOption o (InDoubt file role u →
    ⊥) (λ h. names (pend file role h.act) u)) is (holder_named role actions holdings file keeps u)

-- the state that was read is the committed one
pub is_held : (file : FileMap) (role : Role) (u : Uid) (s : ObjectState) → role_of u ≡ role → IsStateAt place.Committed file u s →
    IsHeld file role u s
is_held file role u s own at = record { bytes = held_own file role u own ∙ at.bytes; in_form = at.in_form; own = at.own }
