-- Runs in form, and their journals.
use Rattle.std.specs.Prelude.{ℕ}
use Rattle.arj_protocol.specs.Words.{Header}
use Rattle.arj_promise.specs.Runs.{Run, journal_by}
use Rattle.arj_law_serial.specs.joint.Fit.{OpsFit}
use Rattle.arj_promise.specs.Runs.{AreMovesInForm}

-- Where the events of a run are in form, so are the operations that its journal answers.
abbrev pub RunsFit : Type 0
RunsFit = (hd : Header) (x : ℕ) (r : Run hd) → AreMovesInForm r.moves → OpsFit x (journal_by hd r)
