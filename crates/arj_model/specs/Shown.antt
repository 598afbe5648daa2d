-- A run counts its events and its frames from 1. Where it goes on behind earlier ones, its lines are shown with both numbers raised by
-- those that there were, and its events name frames so.
use Rattle.std.specs.Prelude.{ℕ, List, map, ◌+◌, ◌-◌}
use Rattle.arj_journal.specs.declared.body.Body.{Body}
use Rattle.arj_journal.specs.declared.body.Body.TheVariants as body
use Rattle.arj_journal.specs.declared.body.Line.{Line}
use Rattle.arj_journal.specs.declared.event.Event.{Event}
use Rattle.arj_journal.specs.declared.event.Event.TheVariants as event
use Rattle.arj_journal.specs.declared.event.FrameNo.{FrameNo}
use Rattle.arj_journal.specs.declared.event.FrameNo.TheVariants as frame_no
use Rattle.arj_start.specs.Start.{Start}

-- what a line says, with the number of a frame raised by this
abbrev pub raised : ℕ → Body → Body
raised k (body.Sent n from to what) = body.Sent (k + n) from to what
raised k (body.Got n) = body.Got (k + n)
raised k (body.Void n) = body.Void (k + n)
raised k (body.Dropped n) = body.Dropped (k + n)
raised k b = b

-- a line as it is shown, behind this many events and frames
abbrev pub shown : Start → Line → Line
shown st line = record { event = st.events + line.event; body = raised st.frames line.body }

-- a journal as it is shown
abbrev pub shown_lines : Start → List Line → List Line
shown_lines st lines = map (shown st) lines

-- A frame by the run's own number. One that was sent before the run began has none: 0.
abbrev pub own_frame : Start → FrameNo → FrameNo
own_frame st (frame_no.Number n) = frame_no.Number (n - st.frames)
own_frame st frame_no.Last = frame_no.Last

-- an event, with a frame that it names by the run's own number
abbrev pub own_event : Start → Event → Event
own_event st (event.Deliver f) = event.Deliver (own_frame st f)
own_event st (event.Lose f) = event.Lose (own_frame st f)
own_event st e = e
