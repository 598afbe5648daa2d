use Rattle.arj_protocol.proofs.Growth.{event_grows}
use Rattle.arj_protocol.proofs.laws.events_only_add.Goals as goal

pub returns : goal.returns
returns c = record { grows = event_grows }
