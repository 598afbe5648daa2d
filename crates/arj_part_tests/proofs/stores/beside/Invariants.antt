-- no file of the role was written
use Rattle.std.proofs.Common.{◌≡◌, Some}
use Rattle.arj_disk.specs.Armed.{files_of, arms_of}
use Rattle.arj_disk.specs.declared.slot.Slot.{Slot}
use Rattle.arj_disk.specs.Says.{slot_role}
use Rattle.arj_part_tests.proofs.stores.beside.Given as goal

abbrev pub invariant-loop-slot : goal.invariant-loop-slot
invariant-loop-slot l = record {
  same : (q : Slot) → slot_role q ≡ Some l.fn.role → files_of l.disk.disk q ≡ files_of l.fn.disk.disk q;
  arms : arms_of l.disk.disk ≡ arms_of l.fn.disk.disk;
}
