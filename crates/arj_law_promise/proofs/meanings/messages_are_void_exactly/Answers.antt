use Rattle.arj_law_promise.proofs.meant.{Meant.runs_void, Void.handlers_exactly}
use Rattle.arj_law_promise.proofs.meanings.messages_are_void_exactly.Goals as goal

pub returns-clause-handlers : goal.returns-clause-handlers
returns-clause-handlers c = handlers_exactly

pub returns-clause-runs : goal.returns-clause-runs
returns-clause-runs c = runs_void
