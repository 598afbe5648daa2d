use Rattle.arj_law_cause.proofs.votes.Exclusions.{excluded_run}
use Rattle.arj_law_cause.proofs.causes.exclusions_have_causes.Goals as goal

pub returns : goal.returns
returns c = record { excluded = excluded_run }
