-- What is asked on one node is answered at once.
use Rattle.std.specs.Prelude.{◌≡◌, ℕ, List, false, Option, Some, None}
use Rattle.arj_journal.specs.declared.body.Body.{Body}
use Rattle.arj_journal.specs.declared.event.Event.{Event}
use Rattle.arj_journal.specs.declared.event.Event.TheVariants as event
use Rattle.arj_journal.specs.declared.header.Header.{Header}
use Rattle.arj_text.specs.Label.{name}
use Rattle.arj_model.specs.Past.{Past, next}
use Rattle.arj_model.specs.Refusals.{is_waiting}
use Rattle.arj_model.specs.Follows.{Runs}
use Rattle.arj_law_runs.specs.follow.Frames.{run_events}
use Rattle.arj_promise.specs.Runs.{IsInForm, Run, journal_by}

-- the action that an event calls or includes by, or commits
abbrev pub asking : Event → Option (List ℕ)
asking (event.Call l x op) = Some (name l)
asking (event.Include l x n) = Some (name l)
asking (event.Commit l) = Some (name l)
asking _ = None

-- On one node, where an event asks something of an action that didn't wait, that action waits for nothing behind it.
abbrev pub AloneStep : Header → Past → Event → List Body → Type 0
AloneStep hd past e bodies = hd.nodes ≡ 1 → (l : List ℕ) → asking e ≡ Some l → is_waiting past l ≡ false →
    is_waiting (next past e bodies) l ≡ false

-- so it is of each event of a run
abbrev pub RunsAnswerAlone : Type 0
RunsAnswerAlone = (hd : Header) (r : Run hd) → IsInForm hd r → Runs (AloneStep hd) r.start (run_events hd r) (journal_by hd r)
