use Rattle.std.proofs.Common.{length}
use Rattle.arj_main.proofs.slip_tests.+has_two_spaces.Given as goal

abbrev pub decreases-has_two_spaces : goal.decreases-has_two_spaces
decreases-has_two_spaces l = length l.line.now
