-- after each row it stands on its disk
use Rattle.std.proofs.Common.{◌≡◌}
use Rattle.arj_disk.specs.Armed.{files_of, arms_of}
use Rattle.arj_node_tests.specs.Alone.{StandsSome}
use Rattle.arj_node_tests.proofs.rows.follow.Given as goal

abbrev pub invariant-rows : goal.invariant-rows
invariant-rows g l = record {
  stands : StandsSome g.C.Core l.alone.core (files_of l.alone.disk.disk);
  arms : arms_of l.alone.disk.disk ≡ arms_of l.fn.alone.disk.disk;
}
