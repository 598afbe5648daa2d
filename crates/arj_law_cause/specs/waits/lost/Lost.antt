-- Lines that a call or an include was lost: each stands in a giveup of its action.
use Rattle.std.specs.Prelude.{◌≡◌, List, Bool, true, false}
use Rattle.std.specs.List.{AllByRecursion}
use Rattle.arj_journal.specs.declared.body.Body.{Body}
use Rattle.arj_journal.specs.declared.body.Body.TheVariants as body
use Rattle.arj_journal.specs.declared.event.Event.{Event}
use Rattle.arj_journal.specs.declared.header.Header.{Header}
use Rattle.arj_law_runs.specs.follow.Frames.{run_events}
use Rattle.arj_model.specs.Follows.{Runs}
use Rattle.arj_model.specs.Own.{may_stand}
use Rattle.arj_model.specs.Past.{Past}
use Rattle.arj_promise.specs.Runs.{IsInForm, Run, journal_by}

-- the line says that a call or an include was lost
abbrev pub is_lost : Body → Bool
is_lost (body.Lost l n) = true
is_lost b = false

-- each such line of an event may stand in it: it is a giveup of that action
abbrev pub LostStep : Header → Past → Event → List Body → Type 0
LostStep hd past e bodies = AllByRecursion (λ (b : Body). is_lost b ≡ true → may_stand e b ≡ true) bodies

-- so it is of each event of a run
abbrev pub GiveupsLose : Type 0
GiveupsLose = (hd : Header) (r : Run hd) → IsInForm hd r → Runs (LostStep hd) r.start (run_events hd r) (journal_by hd r)
