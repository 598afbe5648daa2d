use Rattle.std.proofs.Common.{◌≡◌}
use Rattle.arj_disk.specs.Armed.{files_of, arms_of}
use Rattle.arj_part_tests.proofs.stores.has_each.Given as goal

abbrev pub invariant-loop-slot : goal.invariant-loop-slot
invariant-loop-slot l = record {
  files : files_of l.disk ≡ files_of l.fn.disk;
  arms : arms_of l.disk ≡ arms_of l.fn.disk;
}
