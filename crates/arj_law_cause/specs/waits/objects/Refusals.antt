-- Which calls and includes are refused since their roots use too many objects, against the causes that the journal has.
use Rattle.std.specs.Prelude.{◌≡◌, List, [], ◌∷◌, true}
use Rattle.arj_journal.specs.declared.body.Body.{Body}
use Rattle.arj_journal.specs.declared.body.Body.TheVariants as body
use Rattle.arj_journal.specs.declared.event.Event.{Event}
use Rattle.arj_journal.specs.declared.header.Header.{Header}
use Rattle.arj_law_cause.specs.follow.causes.Refusals.{IsRefusedBy, asks_object, is_met, too_many}
use Rattle.arj_law_runs.specs.follow.Frames.{run_events}
use Rattle.arj_model.specs.Follows.{Runs}
use Rattle.arj_model.specs.Past.{Past}
use Rattle.arj_model.specs.Refusals.{causes}
use Rattle.arj_promise.specs.Runs.{IsInForm, Run, journal_by}

-- A call or an include that is refused since its root would use too many objects has that cause by the journal; and where the journal has that
-- cause the event is refused, with its number or with a lower one.
abbrev pub ObjectRefusalsStep : Header → Past → Event → List Body → Type 0
ObjectRefusalsStep hd past e bodies = asks_object e ≡ true →
    (bodies ≡ body.Refused too_many ∷ [] → is_met too_many (causes hd past e) ≡ true)
    × (is_met too_many (causes hd past e) ≡ true → IsRefusedBy too_many bodies)

-- so it is of each event of a run
abbrev pub ObjectRefusalsFollow : Type 0
ObjectRefusalsFollow = (hd : Header) (r : Run hd) → IsInForm hd r → Runs (ObjectRefusalsStep hd) r.start (run_events hd r) (journal_by hd r)
