-- Which refusals a run writes because actions wait, against the causes that the journal has for each event.
use Rattle.std.specs.Prelude.{◌≡◌, ℕ, List, [], ◌∷◌, true, nat_le, Some}
use Rattle.arj_journal.specs.declared.body.Body.{Body}
use Rattle.arj_journal.specs.declared.body.Body.TheVariants as body
use Rattle.arj_journal.specs.declared.event.Event.{Event}
use Rattle.arj_journal.specs.declared.header.Header.{Header}
use Rattle.arj_law_runs.specs.follow.Frames.{run_events}
use Rattle.arj_model.specs.Follows.{Runs}
use Rattle.arj_model.specs.Past.{Past}
use Rattle.arj_model.specs.Refusals.{refusal}
use Rattle.arj_promise.specs.Runs.{IsInForm, Run, journal_by}

-- the last cause that asks whether an action is there, has ended, or waits: not waiting
abbrev pub not_waiting : ℕ
not_waiting = 8

-- The event is refused with a number up to that exactly where it is its lowest cause by the journal.
abbrev pub WaitingRefusalsStep : Header → Past → Event → List Body → Type 0
WaitingRefusalsStep hd past e bodies = (c : ℕ) → nat_le c not_waiting ≡ true →
    (refusal hd past e ≡ Some c → bodies ≡ body.Refused c ∷ []) × (bodies ≡ body.Refused c ∷ [] → refusal hd past e ≡ Some c)

-- so it is of each event of a run
abbrev pub WaitingRefusalsFollow : Type 0
WaitingRefusalsFollow = (hd : Header) (r : Run hd) → IsInForm hd r →
    Runs (WaitingRefusalsStep hd) r.start (run_events hd r) (journal_by hd r)
