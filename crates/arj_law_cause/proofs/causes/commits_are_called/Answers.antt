use Rattle.arj_law_cause.proofs.stores.Row.{committed_run}
use Rattle.arj_law_cause.proofs.causes.commits_are_called.Goals as goal

pub returns : goal.returns
returns c = record { committed = committed_run }
