-- the lists that are left
use Rattle.std.proofs.Common.{◌≡◌, vec_len}
use Rattle.arj_progrun.specs.Levels.{rest_of}
use Rattle.arj_progrun.proofs.level.cut_front.Given as goal

abbrev pub invariant-loop-list : goal.invariant-loop-list
invariant-loop-list l = rest_of l.rest.items ≡ rest_of l.fn.rest.items

abbrev pub decreases-loop-list : goal.decreases-loop-list
decreases-loop-list l = vec_len l.rest
