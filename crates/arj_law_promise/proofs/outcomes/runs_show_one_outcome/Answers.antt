use Rattle.arj_law_promise.proofs.settling.Aborting.{naming_aborts_none, runs_show, stores_abort}
use Rattle.arj_law_promise.proofs.outcomes.runs_show_one_outcome.Goals as goal

pub returns-clause-stores : goal.returns-clause-stores
returns-clause-stores c = stores_abort

pub returns-clause-naming : goal.returns-clause-naming
returns-clause-naming c = naming_aborts_none

pub returns-clause-runs : goal.returns-clause-runs
returns-clause-runs c = runs_show
