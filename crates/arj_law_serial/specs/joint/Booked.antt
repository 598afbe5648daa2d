-- Runs whose answered calls keep the lock book: their order, their values, and the nesting of actions.
pub use Rattle.arj_model.specs.Keeping.{KeepsTheBook}
use Rattle.arj_law.specs.Joined.{AreCalled}
use Rattle.arj_model.specs.Last.{first_values}
use Rattle.arj_protocol.specs.Words.{Header}
use Rattle.arj_promise.specs.Runs.{Run, journal_by}
use Rattle.arj_promise.specs.Runs.{IsInForm}

-- The journal of every run in form keeps the book, whatever stops fall.
abbrev pub RunsKeepTheBook : Type 0
RunsKeepTheBook = (hd : Header) (r : Run hd) → IsInForm hd r → KeepsTheBook (first_values hd) (journal_by hd r)

-- and the commit of each top whose calls count was called in it, so that it may stand behind another journal
abbrev pub RunsAreCalled : Type 0
RunsAreCalled = (hd : Header) (r : Run hd) → IsInForm hd r → AreCalled (journal_by hd r)
