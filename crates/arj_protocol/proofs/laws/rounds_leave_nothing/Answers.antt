use Rattle.arj_protocol.proofs.Rounds.{whole_empty}
use Rattle.arj_protocol.proofs.laws.rounds_leave_nothing.Goals as goal

pub returns : goal.returns
returns c = record { empty = whole_empty }
