use Rattle.arj_law_cause.proofs.leading.Runs.{runs_fit}
use Rattle.arj_law_cause.proofs.rounds.few_events_meet_no_limit.Goals as goal

pub returns : goal.returns
returns c = record { runs = runs_fit }
