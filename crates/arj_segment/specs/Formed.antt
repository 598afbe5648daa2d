-- The files of a role are formed: what every call finds and leaves.
use Rattle.std.specs.Prelude.{◌≡◌, ◌<◌, ℕ, Bool, true, false, None, Some, IfSome}
use Rattle.arj_base.specs.declared.uid.Uid.{Uid}
use Rattle.arj_disk.specs.declared.limits.TheConstants.{MOST_KNOWN}
use Rattle.arj_disk.specs.declared.slot.Role.{Role}
use Rattle.arj_disk.specs.declared.slot.Slot.{Slot}
use Rattle.arj_disk.specs.declared.slot.Slot.TheVariants.{Committed, Pending, Prepared, Segment, Shadow}
use Rattle.arj_disk.specs.FileMap.{FileMap}
use Rattle.arj_disk.specs.Formed.{AtMost}
use Rattle.arj_disk.specs.Says.{names, slot_role}
use Rattle.arj_store.specs.Pair.{IsKnown}
use Rattle.arj_segment_file.specs.Format.{IsSegment}
use Rattle.arj_segment.specs.Says.{held, numbers, pair_of, pend}
use Rattle.arj_segment.specs.declared.limits.TheConstants.{MOST_NUMBER}

-- the name is of a kind that another store puts
abbrev pub is_old : Slot → Bool
is_old (Committed u) = true
is_old (Shadow u) = true
is_old (Prepared role a) = true
is_old _ = false

-- Which files of a role are there: none of another store, no segment with too great a number, and where no state is committed no segment.
pub record AreInPlace (file : FileMap) (role : Role) : Type 0 where
  pub old : (q : Slot) → is_old q ≡ true → slot_role q ≡ Some role → file q ≡ None
  pub low : (k : ℕ) → MOST_NUMBER < k → file (Segment role k) ≡ None
  pub bare : ((u : Uid) → held file role u ≡ None) → (k : ℕ) → file (Segment role k) ≡ None

-- The files of a role are formed: they are in place, each Segment and Pending file is in its grammar, no object is in two Pending files, and
-- there are not too many objects.
pub record IsFormed (file : FileMap) (role : Role) : Type 0 where
  pub segments : (k : ℕ) → k < numbers → IfSome (file (Segment role k)) (IsSegment role)
  pub pendings : (a : Uid) → IfSome (file (Pending role a)) (IsSegment role)
  pub once : (a b u : Uid) → names (pend file role a) u → names (pend file role b) u → a ≡ b
  pub few : AtMost MOST_KNOWN (IsKnown (pair_of file role))
  pub in_place : AreInPlace file role
