use Rattle.arj_server.proofs.Means.{said_yes}
use Rattle.arj_server.proofs.laws.a_yes_is_of_one_life.Goals as goal

pub returns : goal.returns
returns c = said_yes
