-- That a run of few events meets no limit of frames.
use Rattle.std.specs.Prelude.{◌≡◌, ◌≤◌, ◌<◌, ◌+◌, ◌*◌, ℕ, List, [], ◌∷◌, Bool, true, false, filter, length}
use Rattle.std.specs.List.{list_all}
use Rattle.arj_journal.specs.declared.body.Body.{Body}
use Rattle.arj_journal.specs.declared.body.Body.TheVariants as body
use Rattle.arj_journal.specs.declared.body.Cause.TheVariants as cause
use Rattle.arj_journal.specs.declared.body.Line.{Line}
use Rattle.arj_journal.specs.declared.event.Event.{Event}
use Rattle.arj_journal.specs.declared.event.Event.TheVariants as event
use Rattle.arj_journal.specs.declared.header.Header.{Header}
use Rattle.arj_model.specs.Actions.{acts}
use Rattle.arj_model.specs.Follows.{is_limited}
use Rattle.arj_law_runs.specs.follow.Frames.{run_events}
use Rattle.arj_promise.specs.Runs.{IsInForm, Run, journal_by}
use Rattle.arj_start.specs.Limits.{most_frames}

-- it is known of the event how many frames it sends at most, as no node is greeted: no tick, restart, settle or quiesce
abbrev pub is_light : Event → Bool
is_light (event.Tick n) = false
is_light (event.Restart n) = false
is_light event.Settle = false
is_light event.Quiesce = false
is_light e = true

-- the line says that an action was aborted because the script asked for it
abbrev pub aborts_asked : Line → Bool
aborts_asked line = is_asked line.body
  where
    is_asked : Body → Bool
    is_asked (body.Aborted l cause.Asked) = true
    is_asked b = false

-- how many lines say so
abbrev pub asked_aborts : List Line → ℕ
asked_aborts lines = length (filter aborts_asked lines)

-- So many of these events and of such lines together meet no limit of frames: each stands for four frames to each of fifteen other nodes.
abbrev pub most_light : ℕ
most_light = 1666

-- few of these events, with few such lines, meet no limit of frames
abbrev pub LightFit : List Event → List Line → Type 0
LightFit es journal = list_all is_light es ≡ true → length es + asked_aborts journal ≤ most_light → is_limited journal ≡ false

-- ---- any events

-- What an event adds at most to the frames that are sent, counting each with all that it leads to, in a run in which so many actions
-- begin: a call or an include ten; a commit two to each node for each of its steps, and at its end one that tells of it, with an
-- acknowledgement, and one to each node behind that; an abort one to each node for each action; bytes that are handed over one; what is
-- delivered again a question for each action at most; a tick, a restart and a quiesce what they send, with all that it leads to. A settle
-- adds none: what it sends was counted.
abbrev pub most_added : Header → ℕ → Event → ℕ
most_added hd a (event.Call l x op) = 10
most_added hd a (event.Include l x n) = 10
most_added hd a (event.Commit l) = hd.nodes * (hd.nodes + 6) + 2
most_added hd a (event.Abort l) = hd.nodes * a
most_added hd a (event.GiveUp l) = 2
most_added hd a (event.Junk n bytes) = 1
most_added hd a (event.Deliver k) = (hd.nodes + 2) + (hd.nodes + 3) * a
most_added hd a (event.Tick n) = (hd.nodes * (hd.nodes + 5) + 5) * a
most_added hd a (event.Restart n) = (hd.nodes * (hd.nodes + 3) + 3) * a + hd.nodes * ((hd.nodes + 3) * a + 1)
most_added hd a event.Quiesce = hd.nodes * ((hd.nodes * (hd.nodes + 5) + 5) * a)
most_added hd a e = 0

-- so these events together
abbrev pub all_added : Header → ℕ → List Event → ℕ
all_added hd a [] = 0
all_added hd a (e ∷ es) = most_added hd a e + all_added hd a es

-- events of any kind that add fewer than a run may send meet no limit of frames
abbrev pub AddedFit : Header → List Event → List Line → Type 0
AddedFit hd es journal = all_added hd (length (acts journal)) es < most_frames → is_limited journal ≡ false

-- ---- in a run

-- few events meet no limit of frames, whichever they are
pub record FewFit (hd : Header) (es : List Event) (journal : List Line) : Type 0 where
  pub light : LightFit es journal
  pub added : AddedFit hd es journal

-- so it is in every run
abbrev pub RunsFit : Type 0
RunsFit = (hd : Header) (r : Run hd) → IsInForm hd r → FewFit hd (run_events hd r) (journal_by hd r)
