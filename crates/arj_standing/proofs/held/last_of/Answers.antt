use Rattle.arj_standing.proofs.Paths.{last_by_index}
use Rattle.arj_standing.proofs.held.last_of.Goals as goal

pub returns-in-len1-up : goal.returns-in-len1-up
returns-in-len1-up c = last_by_index c.args.path.now
