use Rattle.arj_law_promise.proofs.meant.{Meant.known_meant, Meant.runs_mean, Requests.meant_keep}
use Rattle.arj_law_promise.proofs.meanings.what_is_sent_can_be_meant.Goals as goal

pub returns-clause-handlers : goal.returns-clause-handlers
returns-clause-handlers c = meant_keep

pub returns-clause-gives : goal.returns-clause-gives
returns-clause-gives c = known_meant

pub returns-clause-runs : goal.returns-clause-runs
returns-clause-runs c = runs_mean
