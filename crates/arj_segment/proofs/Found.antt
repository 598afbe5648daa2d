-- What a recovery finds.
use Rattle.std.proofs.Common.{◌≡◌, ◌<◌, ℕ, List, [], ◌∷◌, refl, Option, Some}
use Rattle.std.specs.Prelude.{Contains, IsSome}
use Rattle.std.specs.List.{AllByRecursion}
use Rattle.std.specs.List.Sorted.{IsStrictlySortedBy}
use Rattle.std.specs.Ordering.{nat_cmp}
use Rattle.arj_base.specs.State.{state_bytes, StateInForm}
use Rattle.arj_base.specs.declared.state.ObjectState.{ObjectState}
use Rattle.arj_base.specs.declared.uid.Uid.{Uid}
use Rattle.arj_disk.specs.Disk.{Lists}
use Rattle.arj_disk.specs.FileMap.{FileMap}
use Rattle.arj_disk.specs.declared.slot.Role.{Role}
use Rattle.arj_disk.specs.declared.slot.Slot.{Slot}
use Rattle.arj_disk.specs.declared.slot.Slot.TheVariants as slot
use Rattle.arj_store.specs.Pair.{FindsPair, IsHeld}
use Rattle.arj_store.specs.Table.{AreValuesOf}
use Rattle.arj_segment.proofs.Picked.{all_map}
use Rattle.arj_segment.proofs.Valued.{each_held, every_held, values_sorted}
use Rattle.arj_segment.specs.Says.{held, numbers, pair_of, pend, segments}
use Rattle.arj_segment.specs.Tables.{AreNumbers, ListsPends, Unpacks}

pub found_pair : (role : Role) (file : FileMap) (table : Uid → Option ObjectState) → ((u : Uid) → Unpacks u (held file role u) (table u)) →
    (values : List ObjectState) → AreValuesOf table values
    → (pends : List (Uid × List ObjectState)) → ListsPends (pend file role) pends →
    FindsPair (pair_of file role) (record { committed = values; prepared = pends })
found_pair role file table unpacks values are pends lists = record {
  committed = each values (each_held (held file role) table unpacks values are);
  every_committed = every_held (held file role) table unpacks values are;
  by_uid = values_sorted (held file role) table unpacks values are;
  prepared = lists.each;
  every_prepared = lists.every;
  by_action = lists.by_action;
}
  where
    each : (ss : List ObjectState) → AllByRecursion (λ s. (held file role s.uid ≡ Some (state_bytes s)) × StateInForm s) ss →
        AllByRecursion (λ s. IsHeld (pair_of file role) s.uid s) ss
    each [] all = tt
    each (s ∷ ss) all = (record { bytes = all.0.0; in_form = all.0.1; own = refl }, each ss all.1)

-- the numbers among the names of a disk
pub are_numbers : (file : FileMap) (role : Role) (names : List Slot) (ks : List ℕ) → Lists file names →
    ((k : ℕ) → Contains names (slot.Segment role k) → Contains ks k) → AllByRecursion (λ k. Contains names (slot.Segment role k)) ks
    → AllByRecursion (λ k. k < numbers) ks → IsStrictlySortedBy nat_cmp ks → AreNumbers (segments file role) ks
are_numbers file role names ks lists there only below rises = record {
  there = λ k within some. there k ((lists.there (slot.Segment role k)).0 some);
  only = all_map (λ k. Contains names (slot.Segment role k)) (λ k. IsSome (segments file role k)) ks
      (λ k is. (lists.there (slot.Segment role k)).1 is) only;
  below = below;
  rises = rises;
}
