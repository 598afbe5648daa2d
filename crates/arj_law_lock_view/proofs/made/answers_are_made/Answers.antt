use Rattle.arj_law_lock_view.proofs.moments.Spans.{runs_make, taken_in_span}
use Rattle.arj_law_lock_view.specs.moments.Runs.{says_nothing}
use Rattle.arj_law_lock_view.proofs.made.answers_are_made.Goals as goal

pub returns-clause-runs : goal.returns-clause-runs
returns-clause-runs c = runs_make

pub returns-clause-span : goal.returns-clause-span
returns-clause-span c = taken_in_span says_nothing
