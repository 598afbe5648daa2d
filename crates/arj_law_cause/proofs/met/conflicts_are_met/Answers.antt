use Rattle.arj_law_cause.proofs.rows.Running.{runs_meet}
use Rattle.arj_law_cause.specs.rows.Says.{says_so}
use Rattle.arj_law_lock_view.proofs.moments.Spans.{taken_in_span}
use Rattle.arj_law_cause.proofs.met.conflicts_are_met.Goals as goal

pub returns-clause-runs : goal.returns-clause-runs
returns-clause-runs c = runs_meet

pub returns-clause-span : goal.returns-clause-span
returns-clause-span c = (λ accepted hd. taken_in_span (says_so accepted hd))
