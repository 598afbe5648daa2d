-- Held, and entry held, at each line of a journal, by its tables.
use Rattle.arj_protocol.specs.Words.{Header}
use Rattle.arj_promise.specs.Runs.{Run, journal_by}
use Rattle.arj_promise.specs.Runs.{IsInForm}
use Rattle.arj_promise.specs.Held.{HoldsEach}

-- So it is in each run in form.
abbrev pub RunsHoldEach : Type 0
RunsHoldEach = (hd : Header) (r : Run hd) → IsInForm hd r → HoldsEach (journal_by hd r)
