-- What is kept in every run, and which objects are called there.
use Rattle.std.specs.Prelude.{ℕ, Contains}
use Rattle.arj_protocol.specs.Words.{Header}
use Rattle.arj_promise.specs.Runs.{Run, journal_by}
use Rattle.arj_model.specs.Actions.{Placed}
use Rattle.arj_model.specs.Last.{Inclusion, included}
use Rattle.arj_law_lock_view.specs.facts.Entries.{HasObject}
use Rattle.arj_law_serial.specs.order.Seen.{IsCalled}
use Rattle.arj_law_serial.specs.whole.Called.{IsIncluded}

-- In every run, whatever stops fall, answered calls are on objects of the header.
abbrev pub RunsCallObjects : Type 0
RunsCallObjects = (hd : Header) (r : Run hd) (x : ℕ) → IsCalled x (journal_by hd r) → HasObject hd x

-- and so are those of which a store was included, which is a node of the header
abbrev pub RunsIncludeObjects : Type 0
RunsIncludeObjects = (hd : Header) (r : Run hd) (i : Placed Inclusion) → Contains (included (journal_by hd r)) i → IsIncluded hd i.it
