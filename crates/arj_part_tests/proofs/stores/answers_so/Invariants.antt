use Rattle.std.proofs.Common.{◌≡◌}
use Rattle.arj_disk.specs.Armed.{files_of, arms_of}
use Rattle.arj_disk.specs.declared.slot.Role.TheVariants.{Store}
use Rattle.arj_part_tests.specs.Known.{KnowsOurs}
use Rattle.arj_part_tests.proofs.stores.answers_so.Given as goal

abbrev pub invariant-loop-call : goal.invariant-loop-call
invariant-loop-call g l = record {
  role : g.S.ObjectStore.own_role l.store ≡ Store;
  keeps : g.S.ObjectStore.keeps l.store (files_of l.disk.disk);
  formed : g.S.ObjectStore.formed (files_of l.disk.disk) Store;
  known : KnowsOurs Store (g.S.ObjectStore.pair (files_of l.disk.disk) Store);
  arms : arms_of l.disk.disk ≡ 0;
}
