use Rattle.arj_law_runs.proofs.coordinators.RunCoords.{few_ends, trees_room}
use Rattle.arj_law_runs.proofs.rooms.trees_have_room.Goals as goal

pub returns : goal.returns
returns c = record { runs = trees_room; ends = few_ends }
