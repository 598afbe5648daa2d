-- How many frames an event sends at most.
use Rattle.std.specs.Prelude.{◌≤◌, ◌+◌, ◌-◌, ◌*◌, ◌==◌, ◌&&◌, ◌||◌, length, filter, not, ℕ, List, Bool, true, false, if◌then◌else◌, IfSome}
use Rattle.std.specs.Prelude.{[], ◌∷◌, Option, Some}
use Rattle.arj_journal.specs.declared.body.Body.{Body}
use Rattle.arj_journal.specs.declared.body.FrameKind.{FrameKind}
use Rattle.arj_journal.specs.declared.body.FrameKind.TheVariants as frame
use Rattle.arj_journal.specs.declared.body.Line.{Line}
use Rattle.arj_journal.specs.declared.event.Event.{Event}
use Rattle.arj_journal.specs.declared.event.Event.TheVariants as event
use Rattle.arj_journal.specs.declared.header.Header.{Header}
use Rattle.arj_text.specs.Label.{name}
use Rattle.arj_model.specs.Actions.{Act, act_in, acts}
use Rattle.arj_model.specs.CausePends.{frame_is}
use Rattle.arj_model.specs.Follows.{Runs}
use Rattle.arj_model.specs.Own.{aborted_of}
use Rattle.arj_model.specs.Past.{Past, next}
use Rattle.arj_model.specs.Refusals.{frame_no, is_waiting, last_frame, open_frames}
use Rattle.arj_law_runs.specs.follow.Frames.{run_events}
use Rattle.arj_promise.specs.Runs.{IsInForm, Run, journal_by}

-- a request of a call or an include, or an answer to one
abbrev pub is_of_call : FrameKind → Bool
is_of_call frame.Bind = true
is_of_call frame.Bound = true
is_of_call frame.Load = true
is_of_call frame.Loaded = true
is_of_call frame.Activate = true
is_of_call frame.Activated = true
is_of_call frame.Record = true
is_of_call frame.Recorded = true
is_of_call frame.Invoke = true
is_of_call frame.Invoked = true
is_of_call _ = false

-- the frame of this number carries one
abbrev pub is_call_frame : List Line → ℕ → Bool
is_call_frame lines k = frame_is (λ from to what. is_of_call what) lines k

-- a request of a commit, what tells an end, or a question about one: who takes it does no more than answer
abbrev pub is_answered : FrameKind → Bool
is_answered frame.Vote = true
is_answered frame.Prepare = true
is_answered frame.Confirm = true
is_answered frame.Told = true
is_answered frame.Query = true
is_answered _ = false

-- the frame of this number carries one to another node
abbrev pub is_answered_frame : List Line → ℕ → Bool
is_answered_frame lines k = frame_is (λ from to what. is_answered what && not (from == to)) lines k

-- an answer to a Prepare or a Confirm
abbrev pub is_prepared : FrameKind → Bool
is_prepared frame.Prepared = true
is_prepared frame.Confirmed = true
is_prepared _ = false

-- an acknowledgement
abbrev pub is_acked : FrameKind → Bool
is_acked frame.Acked = true
is_acked _ = false

-- a node is greeted
abbrev pub is_hello : FrameKind → Bool
is_hello frame.Hello = true
is_hello _ = false

-- the frame of this number carries such a message
abbrev pub carries : (FrameKind → Bool) → List Line → ℕ → Bool
carries test lines k = frame_is (λ from to what. test what) lines k

-- how many nodes there are beside one
abbrev pub others : Header → ℕ
others hd = hd.nodes - 1

-- So many at most by whom the frame of this number is delivered: one where it is a request or an answer of a call or an include, or to
-- another node a request of a commit, an end or a question; of an acknowledgement one to each other node, as the end of a serializing
-- action may be told; of an answer to a Prepare or a Confirm two, as before that the commit may be decided; of a hello
-- one for each action that began; and of any other three, as behind an answer to a Vote the commit may ask each first.
abbrev pub most_delivered : Header → List Line → ℕ → Option ℕ
most_delivered hd lines k =
    if is_call_frame lines k || is_answered_frame lines k then Some 1
    else (if carries is_acked lines k then Some (others hd)
    else (if carries is_prepared lines k then Some (2 * others hd)
    else (if carries is_hello lines k then Some (length (acts lines) * others hd) else Some (3 * others hd))))

-- The open frame of this number leads to so many at most, with what these lead to: a hello to a question for each action that began, what
-- answers it, what acknowledges that, and one to each node behind an acknowledgement; any other to no more than a question does.
abbrev pub most_led : Header → List Line → ℕ → ℕ
most_led hd lines k = if carries is_hello lines k then (hd.nodes + 3) * length (acts lines) else hd.nodes + 2

-- so these frames
abbrev pub all_led : Header → List Line → List ℕ → ℕ
all_led hd lines [] = 0
all_led hd lines (k ∷ ks) = most_led hd lines k + all_led hd lines ks

-- how many actions wait, for a call, an include or their commit
abbrev pub waiting : Past → ℕ
waiting past = length (filter (λ (a : Act). is_waiting past a.label) (acts past.lines))

-- A settle sends what open frames lead to, and what actions that wait have to do still: eight for what is left of a call, or to each node
-- two by which states are prepared, and at its end one that tells of it, with an acknowledgement, and one to each node behind that.
abbrev pub most_settled : Header → Past → ℕ
most_settled hd past = all_led hd past.lines (open_frames past.lines) + (hd.nodes * (hd.nodes + 4) + 8) * waiting past

-- A quiesce sends as many, and each node that ticks what is sent again for each action that began, and what that leads to: two to each node
-- for what it waits with, one that tells of its end, with what that leads to, and one question.
abbrev pub most_quiesced : Header → Past → ℕ
most_quiesced hd past = most_settled hd past + hd.nodes * ((hd.nodes * (hd.nodes + 5) + 5) * length (acts past.lines))

-- How many frames the event sends at most, in a run so far: one where it calls or includes, or hands over bytes; what a delivery may; to
-- each other node four where an action commits, two where it is given up, and one for each open action that an abort ends; to each other
-- node seven for each action that began where a node ticks: four for what it waits with, two for its record, and one question; and three
-- for each where a node restarts, with a hello besides; what a settle and a quiesce may; and none where it is any other.
abbrev pub most_sent : Header → Past → Event → Option ℕ
most_sent hd past (event.Call l x op) = Some 1
most_sent hd past (event.Include l x n) = Some 1
most_sent hd past (event.Deliver k) = most_delivered hd past.lines (frame_no past.lines k)
most_sent hd past (event.Junk n bytes) = Some 1
most_sent hd past (event.Commit l) = Some (4 * others hd)
most_sent hd past (event.Abort l) = Some (length (aborted_of past.lines (act_in (acts past.lines) (name l))) * others hd)
most_sent hd past (event.GiveUp l) = Some (2 * others hd)
most_sent hd past (event.Tick n) = Some ((7 * length (acts past.lines)) * others hd)
most_sent hd past (event.Restart n) = Some ((3 * length (acts past.lines) + 1) * others hd)
most_sent hd past event.Settle = Some (most_settled hd past)
most_sent hd past event.Quiesce = Some (most_quiesced hd past)
most_sent hd past e = Some 0

-- so many at most are sent in it, by the numbers of the last frames before it and behind it
abbrev pub SendsStep : Header → Past → Event → List Body → Type 0
SendsStep hd past e bodies = IfSome (most_sent hd past e) (λ k. last_frame (next past e bodies).lines ≤ last_frame past.lines + k)

-- so it is of each event of a run
abbrev pub RunsSendFew : Type 0
RunsSendFew = (hd : Header) (r : Run hd) → IsInForm hd r → Runs (SendsStep hd) r.start (run_events hd r) (journal_by hd r)
