use Rattle.arj_protocol.proofs.Unknown.{known_at_server, unknown_at_server, unknown_at_naming}
use Rattle.arj_protocol.proofs.laws.unknown_ends_change_nothing.Goals as goal

pub returns-clause-again : goal.returns-clause-again
returns-clause-again c = known_at_server

pub returns-clause-server : goal.returns-clause-server
returns-clause-server c = unknown_at_server

pub returns-clause-naming : goal.returns-clause-naming
returns-clause-naming c = unknown_at_naming
