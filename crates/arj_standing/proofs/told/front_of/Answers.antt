use Rattle.arj_standing.proofs.Paths.{front_by_take}
use Rattle.arj_standing.proofs.told.front_of.Goals as goal

pub returns-in-len1-up : goal.returns-in-len1-up
returns-in-len1-up c = front_by_take c.args.path.now
