use Rattle.arj_world.proofs.Turning.{turns_named}
use Rattle.arj_world.proofs.whole.runs_know_their_labels.Goals as goal

pub returns : goal.returns
returns c = record { runs = turns_named }
