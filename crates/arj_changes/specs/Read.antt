-- What a line tells of a called commit.
use Rattle.std.specs.Prelude.{ℕ, List, Option, Some, None}
use Rattle.arj_model.specs.Actions.{Act, top_in}
use Rattle.arj_changes.specs.Kept.{called_by}
use Rattle.arj_changes.specs.declared.kept.Called.{Called}

-- the top of the path that a line names, if it names one, at this place
abbrev pub called_in : ℕ → Option (List Act) → Option Called
called_in at None = None
called_in at (Some path) = called_by at path (top_in path)
