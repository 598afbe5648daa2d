use Rattle.arj_law_serial.proofs.holding.AlongMoves.{runs_hold_each}
use Rattle.arj_law_serial.proofs.along.runs_hold_locks_at_each_line.Goals as goal

pub returns : goal.returns
returns c = runs_hold_each
