-- Which events a run has run; and the lines of frames, of halts and of stops to come against the lines before them.
use Rattle.std.specs.Prelude.{◌≡◌, List, [], ◌∷◌, length, map, take, Bool, true, ◌==◌, ◌&&◌, ◌||◌, not}
use Rattle.arj_journal.specs.declared.body.Body.{Body}
use Rattle.arj_journal.specs.declared.body.Body.TheVariants as body
use Rattle.arj_journal.specs.declared.event.Event.{Event}
use Rattle.arj_journal.specs.declared.header.Header.{Header}
use Rattle.arj_model.specs.Past.{Past}
use Rattle.arj_model.specs.Refusals.{is_down}
use Rattle.arj_model.specs.CauseSpans.{Here, behind, here_at}
use Rattle.arj_model.specs.CauseNodes.{may_halt, restarts}
use Rattle.arj_model.specs.Caused.{has_cause}
use Rattle.arj_model.specs.Follows.{Runs}
use Rattle.arj_promise.specs.Runs.{IsInForm, Move, Run, journal_by, world_by}

-- the events that were run: none behind the one at which a limit ended the run
abbrev pub run_events : (hd : Header) → Run hd → List Event
run_events hd r = let w = world_by hd r in take w.event (map (λ (m : Move). let e = m.asked in e.event) r.moves)

-- so it is of each of these lines, behind those before it
abbrev pub are_so : (Here → Body → Bool) → Here → List Body → Bool
are_so fits h [] = true
are_so fits h (b ∷ bs) = fits h b && are_so fits (behind h b) bs

-- A line of a frame or of a stop to come has its cause. A node halts in no crash of another one, and where it is up; the first line of a
-- restart may be that it halted again.
abbrev pub frame_fits : Here → Body → Bool
frame_fits h (body.Sent k from to carried) = has_cause h (body.Sent k from to carried)
frame_fits h (body.Got k) = has_cause h (body.Got k)
frame_fits h (body.Void k) = has_cause h (body.Void k)
frame_fits h (body.Dropped k) = has_cause h (body.Dropped k)
frame_fits h (body.Armed n) = has_cause h (body.Armed n)
frame_fits h (body.Halted n) =
    may_halt n h.event && (not (is_down h.start h.lines n) || (restarts n h.event && (length h.lines == h.first)))
frame_fits h _ = true

-- so it is of each line that an event wrote
abbrev pub FramesStep : Header → Past → Event → List Body → Type 0
FramesStep hd past e bodies = are_so frame_fits (here_at hd past e bodies) bodies ≡ true

-- and of each line of a run
abbrev pub FramesHaveCauses : Type 0
FramesHaveCauses = (hd : Header) (r : Run hd) → IsInForm hd r → Runs (FramesStep hd) r.start (run_events hd r) (journal_by hd r)
