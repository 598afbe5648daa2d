use Rattle.arj_law_runs.proofs.coordinators.RunCoords.{labels_named}
use Rattle.arj_law_runs.proofs.names.labels_are_known.Goals as goal

pub returns : goal.returns
returns c = record { runs = labels_named }
