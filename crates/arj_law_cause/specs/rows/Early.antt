-- Journals so far in form.
use Rattle.std.specs.Prelude.{◌≤◌, ℕ, List, length}
use Rattle.arj_model.specs.Actions.{acts}
use Rattle.arj_protocol.specs.Words.{Line}
use Rattle.arj_start.specs.Limits.{most_labels}
use Rattle.arj_law_runs.specs.calls.Bindings.{HasFewBindings}
use Rattle.arj_law_serial.specs.joint.Fit.{OpsFit}

-- the journal has few actions: as many as labels may be given
abbrev pub HasFewActs : List Line → Type 0
HasFewActs lines = length (acts lines) ≤ most_labels

-- the journal's part in form: few bindings were made, few actions began, and answered operations are in form
pub record IsEarly (lines : List Line) : Type 0 where
  pub few : HasFewBindings lines
  pub short : HasFewActs lines
  pub fit : (x : ℕ) → OpsFit x lines
