use Rattle.arj_coord.proofs.Maps.{doings_at_once}
use Rattle.arj_coord.proofs.laws.doings_change_at_once.Goals as goal

pub returns : goal.returns
returns c u f g d = doings_at_once u f g d
