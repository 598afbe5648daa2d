-- A row of causes: that each line of one kind has its cause, in every run.
use Rattle.std.specs.Prelude.{◌≡◌, List, Bool, true, ◌||◌, not}
use Rattle.arj_journal.specs.declared.body.Body.{Body}
use Rattle.arj_journal.specs.declared.event.Event.{Event}
use Rattle.arj_journal.specs.declared.header.Header.{Header}
use Rattle.arj_law_runs.specs.follow.Frames.{are_so, run_events}
use Rattle.arj_model.specs.CauseSpans.{Here, here_at}
use Rattle.arj_model.specs.Caused.{has_cause}
use Rattle.arj_model.specs.Follows.{Runs}
use Rattle.arj_model.specs.Past.{Past}
use Rattle.arj_promise.specs.Runs.{IsInForm, Run, journal_by}

-- a line passes this test, if it is one of these
abbrev pub tested : (Here → Body → Bool) → (Here → Body → Bool) → Here → Body → Bool
tested test of h b = not (of h b) || test h b

-- a line has its cause, if it is one of these
abbrev pub row : (Here → Body → Bool) → Here → Body → Bool
row of h b = tested has_cause of h b

-- each line that an event wrote passes the test, behind those before it, if it is one of these
abbrev pub TestedStep : (Here → Body → Bool) → (Here → Body → Bool) → Header → Past → Event → List Body → Type 0
TestedStep test of hd past e bodies = are_so (tested test of) (here_at hd past e bodies) bodies ≡ true

-- so it is of each line that an event wrote, behind those before it
abbrev pub RowStep : (Here → Body → Bool) → Header → Past → Event → List Body → Type 0
RowStep of hd past e bodies = are_so (row of) (here_at hd past e bodies) bodies ≡ true

-- In every run in form, wherever it begins and wherever disks stop, each of these lines has its cause, by the events and the lines
-- before it.
abbrev pub RowHoldsWhere : (Here → Body → Bool) → Type 0
RowHoldsWhere of = (hd : Header) (r : Run hd) → IsInForm hd r → Runs (RowStep of hd) r.start (run_events hd r) (journal_by hd r)

-- so it is of each line of a kind
abbrev pub RowHolds : (Body → Bool) → Type 0
RowHolds of = RowHoldsWhere (λ h. of)

-- In every run in form, wherever it begins and wherever disks stop, each line of the kind passes this test.
abbrev pub TestHolds : (Here → Body → Bool) → (Body → Bool) → Type 0
TestHolds test of = (hd : Header) (r : Run hd) → IsInForm hd r → Runs (TestedStep test (λ h. of) hd) r.start (run_events hd r) (journal_by hd r)
