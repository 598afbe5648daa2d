use Rattle.std.proofs.Common.{◌≡◌}
use Rattle.arj_disk.specs.Armed.{files_of, arms_of}
use Rattle.arj_intent.specs.Records.{AreInForm}
use Rattle.arj_part_tests.proofs.records.start.Given as goal

abbrev pub invariant-loop-row : goal.invariant-loop-row
invariant-loop-row l = record {
  form : AreInForm (files_of l.disk.disk);
  arms : arms_of l.disk.disk ≡ 0;
}
