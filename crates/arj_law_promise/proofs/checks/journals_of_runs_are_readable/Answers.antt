use Rattle.arj_law_promise.proofs.readable.Journals.{no_answers_differ, runs_are_readable}
use Rattle.arj_law_promise.proofs.checks.journals_of_runs_are_readable.Goals as goal

pub returns-clause-readable : goal.returns-clause-readable
returns-clause-readable c = runs_are_readable

pub returns-clause-checked : goal.returns-clause-checked
returns-clause-checked c = no_answers_differ
