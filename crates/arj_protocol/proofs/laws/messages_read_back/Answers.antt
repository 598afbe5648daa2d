use Rattle.arj_protocol.proofs.Messages.{request_reads_back, response_reads_back, response_asks_nothing}
use Rattle.arj_protocol.proofs.laws.messages_read_back.Goals as goal

pub returns-clause-request : goal.returns-clause-request
returns-clause-request c = request_reads_back

pub returns-clause-response : goal.returns-clause-response
returns-clause-response c = response_reads_back

pub returns-clause-apart : goal.returns-clause-apart
returns-clause-apart c = response_asks_nothing
