use Rattle.arj_law_promise.proofs.waiting.{Gives.known_give, Keeping.waits_keep}
use Rattle.arj_law_promise.proofs.waits.requests_that_wait_are_answered.Goals as goal

pub returns-clause-handlers : goal.returns-clause-handlers
returns-clause-handlers c = waits_keep

pub returns-clause-gives : goal.returns-clause-gives
returns-clause-gives c = known_give
