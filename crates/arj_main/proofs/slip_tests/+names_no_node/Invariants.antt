use Rattle.std.proofs.Common.{length}
use Rattle.arj_main.proofs.slip_tests.+names_no_node.Given as goal

abbrev pub decreases-names_no_node : goal.decreases-names_no_node
decreases-names_no_node l = length l.list.now
