-- programs that committed mean their calls
use Rattle.arj_progrun.proofs.Keeping.{programs_mean}
use Rattle.arj_progrun.proofs.laws.programs_mean_their_calls.Goals as goal

pub returns : goal.returns
returns c plan trace end s = programs_mean plan trace end s
