use Rattle.arj_protocol.proofs.Payloads.{value_back, entry_back}
use Rattle.arj_protocol.proofs.laws.payloads_read_back.Goals as goal

pub returns-clause-value : goal.returns-clause-value
returns-clause-value c = value_back

pub returns-clause-entry : goal.returns-clause-entry
returns-clause-entry c = entry_back
