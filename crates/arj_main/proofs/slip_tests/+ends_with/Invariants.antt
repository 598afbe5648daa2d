use Rattle.std.proofs.Common.{length}
use Rattle.arj_main.proofs.slip_tests.+ends_with.Given as goal

abbrev pub decreases-ends_with : goal.decreases-ends_with
decreases-ends_with l = length l.line.now
