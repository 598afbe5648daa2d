use Rattle.arj_law_cause.proofs.quiesces.Framed.{runs_send_few}
use Rattle.arj_law_cause.proofs.rounds.events_send_few_frames.Goals as goal

pub returns : goal.returns
returns c = record { runs = runs_send_few }
