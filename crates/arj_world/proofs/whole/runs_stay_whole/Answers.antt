use Rattle.arj_world.proofs.Owns.{runs_whole, turned_whole}
use Rattle.arj_world.proofs.whole.runs_stay_whole.Goals as goal

pub returns : goal.returns
returns c = record { turn = turned_whole; runs = runs_whole }
