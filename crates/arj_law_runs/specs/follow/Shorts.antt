-- Events that write one line of their own and no more, and what they are refused for.
use Rattle.std.specs.Prelude.{◌≡◌, List, [], ◌∷◌, Bool, true, false}
use Rattle.arj_journal.specs.declared.body.Body.{Body}
use Rattle.arj_journal.specs.declared.body.Body.TheVariants as body
use Rattle.arj_journal.specs.declared.event.Event.{Event}
use Rattle.arj_journal.specs.declared.event.Event.TheVariants as event
use Rattle.arj_journal.specs.declared.header.Header.{Header}
use Rattle.arj_model.specs.Past.{Past, is_refused}
use Rattle.arj_model.specs.Follows.{Accepted, Runs, Step}
use Rattle.arj_law_runs.specs.follow.Frames.{run_events}
use Rattle.arj_promise.specs.Runs.{IsInForm, Run, journal_by}

-- the event begins an action in no other, loses a frame, crashes a node, arms a disk, or hands over bytes
abbrev pub is_short : Event → Bool
is_short (event.Begin l n) = true
is_short (event.Serial l n) = true
is_short (event.Lose k) = true
is_short (event.Crash n) = true
is_short (event.Stop n calls k) = true
is_short (event.Junk n bytes) = true
is_short _ = false

-- the event begins an action in another one
abbrev pub begins_below : Event → Bool
begins_below (event.BeginIn l p) = true
begins_below (event.Top l p) = true
begins_below _ = false

-- A short event writes what it may: the line of its lowest cause, or, where the journal has none, its own. An action that begins in another
-- one has its own line, where that isn't refused.
pub record ShortEventsStep (hd : Header) (past : Past) (e : Event) (bodies : List Body) : Type 0 where
  pub short : is_short e ≡ true → Step hd past e bodies
  pub below : begins_below e ≡ true → is_refused bodies ≡ false → Accepted hd past e bodies

-- so it is of each event of a run
abbrev pub ShortEventsFollow : Type 0
ShortEventsFollow = (hd : Header) (r : Run hd) → IsInForm hd r → Runs (ShortEventsStep hd) r.start (run_events hd r) (journal_by hd r)
