-- Which refusals a run writes, against the causes that the journal has for each event.
use Rattle.std.specs.Prelude.{◌≡◌, ℕ, List, [], ◌∷◌, Bool, true, false, ◌||◌, not, nat_le, Some}
use Rattle.arj_journal.specs.declared.body.Body.{Body}
use Rattle.arj_journal.specs.declared.body.Body.TheVariants as body
use Rattle.arj_journal.specs.declared.event.Event.{Event}
use Rattle.arj_journal.specs.declared.event.Event.TheVariants as event
use Rattle.arj_journal.specs.declared.header.Header.{Header}
use Rattle.arj_model.specs.Past.{Past}
use Rattle.arj_model.specs.Refusals.{refusal}
use Rattle.arj_model.specs.Follows.{Runs}
use Rattle.arj_law_runs.specs.follow.Frames.{run_events}
use Rattle.arj_promise.specs.Runs.{IsInForm, Run, journal_by}

-- the event names an action that began before
abbrev pub names_action : Event → Bool
names_action (event.BeginIn l p) = true
names_action (event.Top l p) = true
names_action (event.Call l x op) = true
names_action (event.Include l x n) = true
names_action (event.Commit l) = true
names_action (event.Abort l) = true
names_action (event.GiveUp l) = true
names_action _ = false

-- the last cause that asks of an action only whether it is there: ended
abbrev pub ended : ℕ
ended = 6

-- The cause of this number is one of nodes, labels, objects and frames: all of an event that names no action, and of one that does those up
-- to the action's end.
abbrev pub is_plain_cause : Event → ℕ → Bool
is_plain_cause e c = not (names_action e) || nat_le c ended

-- The event is refused with such a number exactly where that is its lowest cause by the journal.
abbrev pub PlainRefusalsStep : Header → Past → Event → List Body → Type 0
PlainRefusalsStep hd past e bodies = (c : ℕ) → is_plain_cause e c ≡ true →
    (refusal hd past e ≡ Some c → bodies ≡ body.Refused c ∷ []) × (bodies ≡ body.Refused c ∷ [] → refusal hd past e ≡ Some c)

-- so it is of each event of a run
abbrev pub PlainRefusalsFollow : Type 0
PlainRefusalsFollow = (hd : Header) (r : Run hd) → IsInForm hd r → Runs (PlainRefusalsStep hd) r.start (run_events hd r) (journal_by hd r)
