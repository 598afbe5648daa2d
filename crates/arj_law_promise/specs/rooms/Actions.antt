-- Lines of actions in form: that one begins, that its record is found, and that its commit is told and done.
use Rattle.std.specs.Prelude.{◌≡◌, ◌<◌, ◌+◌, ℕ, Bool, true, false}
use Rattle.std.specs.List.{AllByRecursion}
use Rattle.arj_base.specs.declared.mode.End.TheVariants as ending
use Rattle.arj_journal.specs.LineForm.{LineInForm}
use Rattle.arj_journal.specs.declared.body.Body.{Body}
use Rattle.arj_journal.specs.declared.body.Body.TheVariants as body
use Rattle.arj_journal.specs.declared.body.Line.{Line}
use Rattle.arj_journal.specs.declared.header.Header.{Header}
use Rattle.arj_law_promise.specs.rooms.Incs.{last_inc}
use Rattle.arj_promise.specs.Runs.{IsInForm, Run, journal_by, most_events}
use Rattle.arj_start.specs.Start.{Start, fresh}

-- each node began so far below the last incarnation that 32 bits count that no run reaches it
abbrev pub HasIncs : Start → Type 0
HasIncs st = (n : ℕ) → st.incs n + 1 + most_events < last_inc

-- so it is at a format
abbrev pub FreshHasIncs : Type 0
FreshHasIncs = HasIncs fresh

-- the line says that an action begins, that a restart found its record, or that its commit is told or done
abbrev pub is_of_action : Body → Bool
is_of_action (body.Began l k u p) = true
is_of_action (body.Recovered n u) = true
is_of_action (body.Told n u ending.Commit p) = true
is_of_action (body.Done n u r ending.Commit) = true
is_of_action _ = false

-- each such line of every run in form from such a start is in form
abbrev pub RunsSayActions : Type 0
RunsSayActions = (hd : Header) (r : Run hd) → IsInForm hd r → HasIncs r.start →
    AllByRecursion (λ (line : Line). is_of_action line.body ≡ true → LineInForm line) (journal_by hd r)
