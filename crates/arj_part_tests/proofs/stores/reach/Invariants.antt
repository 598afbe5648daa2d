use Rattle.std.proofs.Common.{◌≡◌}
use Rattle.arj_disk.specs.Armed.{files_of, arms_of}
use Rattle.arj_part_tests.specs.Known.{KnowsOurs}
use Rattle.arj_part_tests.proofs.stores.reach.Given as goal

abbrev pub invariant-loop-call : goal.invariant-loop-call
invariant-loop-call g l = record {
  role : g.S.ObjectStore.own_role l.store ≡ l.fn.role;
  keeps : g.S.ObjectStore.keeps l.store (files_of l.disk.disk);
  formed : g.S.ObjectStore.formed (files_of l.disk.disk) l.fn.role;
  known : KnowsOurs l.fn.role (g.S.ObjectStore.pair (files_of l.disk.disk) l.fn.role);
  arms : arms_of l.disk.disk ≡ 0;
}
