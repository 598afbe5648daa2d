-- Why a node prepares, ends and restarts as it does, and what the world does: the causes of the other lines.
use Rattle.std.specs.Prelude.{ℕ, ◌+◌, ◌-◌, List, [], ◌∷◌, filter, length, take, Bool, true, false, ◌==◌, ◌&&◌, ◌||◌, not, nat_lt}
use Rattle.std.specs.Prelude.{if◌then◌else◌, Option, Some, None}
use Rattle.std.specs.List.{list_any, list_all}
use Rattle.std.specs.Str.{bytes_eq}
use Rattle.arj_base.specs.declared.mode.End.{End}
use Rattle.arj_base.specs.declared.state.ObjectState.{ObjectState}
use Rattle.arj_base.specs.declared.uid.Uid.{Uid}
use Rattle.arj_base.specs.Uid.{uid_eq}
use Rattle.arj_journal.specs.declared.body.Body.{Body}
use Rattle.arj_journal.specs.declared.body.Body.TheVariants as body
use Rattle.arj_journal.specs.declared.body.FrameKind.{FrameKind}
use Rattle.arj_journal.specs.declared.body.FrameKind.TheVariants as frame
use Rattle.arj_journal.specs.declared.body.Line.{Line}
use Rattle.arj_journal.specs.declared.body.Role.{Role}
use Rattle.arj_journal.specs.declared.body.Role.TheVariants as role
use Rattle.arj_journal.specs.declared.event.Event.{Event}
use Rattle.arj_journal.specs.declared.event.Event.TheVariants as event
use Rattle.arj_text.specs.Label.{name}
use Rattle.arj_model.specs.Actions.{Act, acts, path}
use Rattle.arj_model.specs.Calls.{committings}
use Rattle.arj_model.specs.Last.{entry_from, excluded, included, is_among, joins_of, last_from, listed, object_line, same_list}
use Rattle.arj_model.specs.Last.{servers_of_line}
use Rattle.arj_model.specs.Past.{Asked, Past}
use Rattle.arj_model.specs.Refusals.{frame_no, has_frame, incarnation, is_down, is_first, is_node, is_waiting, last_frame, open_frames}
use Rattle.arj_model.specs.Refusals.{refusal, was_called}
use Rattle.arj_model.specs.Follows.{is_behind_doom, label_doomed}
use Rattle.arj_model.specs.Outcome.{has_cause_to_abort}
use Rattle.arj_model.specs.CauseSpans.{Here, act_by, holds_in, is_doomed, is_top_in, nodes_of, same_frame}
use Rattle.arj_model.specs.CausePends.{changes_any, frame_is, has_some, is_crash_at}
use Rattle.arj_model.specs.CauseLocks.{has_end_of}

-- `prepared`. The commit of the action was called. A store prepares what it changed, naming the entries from which it excludes or
-- includes stores.
abbrev pub has_to_prepare : List Line → ℕ → Act → Role → Bool
has_to_prepare lines n a role.Store = changes_any lines a.id
has_to_prepare lines n a role.Names =
    (n == 1) && (list_any (λ e. e.it.top == a.id) (excluded lines) || list_any (λ i. has_some (joins_of lines a.id i.it.x)) (included lines))

-- so it is of the action with this Uid
abbrev pub prepared_caused : Here → ℕ → Uid → Role → Bool
prepared_caused h n u r = holds_in (λ a. was_called (committings h.lines) a.id && has_to_prepare h.lines n a r) (act_by h.lines u)

-- `done`. The action ended so; where it is aborted though it was decided, the node had a cause.
abbrev pub done_caused : Here → ℕ → Uid → Role → End → Bool
done_caused h n u r e = holds_in (λ a. has_end_of h.lines a e) (act_by h.lines u) && has_cause_to_abort h.lines (body.Done n u r e)

-- `halted`, `up`, `recovered`.

-- The event halts no other node. A crash names its own; how often a disk stops its node is said beside (`count_stops`).
abbrev pub may_halt : ℕ → Event → Bool
may_halt n (event.Crash m) = m == n
may_halt n _ = true

-- the line says that the node halts
abbrev pub is_halt : ℕ → Body → Bool
is_halt n (body.Halted m) = m == n
is_halt n _ = false

-- how often it halted in other events than its crashes: a disk has stopped it each time
abbrev pub count_stops : List Asked → List Line → ℕ → ℕ
count_stops accepted lines n = length (filter (λ line. is_halt n line.body && not (is_crash_at accepted n line.event)) lines)

-- the event restarts the node
abbrev pub restarts : ℕ → Event → Bool
restarts n (event.Restart m) = m == n
restarts n _ = false

-- a node that the script restarts is up in a higher incarnation
abbrev pub up_caused : Here → ℕ → ℕ → Bool
up_caused h n i = restarts n h.event && nat_lt (incarnation h.start h.lines n) i

-- the line says that the action with this label is aborted
abbrev pub is_aborted : List ℕ → Body → Bool
is_aborted l (body.Aborted m c) = bytes_eq (name m) l
is_aborted l _ = false

-- The script restarts the node, and the commit of the top, which began there, was called; it wasn't aborted.
abbrev pub recovered_caused : Here → ℕ → Uid → Bool
recovered_caused h n u =
    restarts n h.event && holds_in (λ a. (a.uid.node == n) && (is_top_in a (path (acts h.lines) a.label) && (was_called (committings h.lines) a.id
    && not (list_any (λ line. is_aborted a.label line.body) h.lines)))) (act_by h.lines u)

-- Frames.

-- the event hands bytes to this node that are no message
abbrev pub is_junk_to : ℕ → Event → Bool
is_junk_to n (event.Junk m bytes) = m == n
is_junk_to n _ = false

-- `sent`. The frame has the next number and goes to a node: from a node that is up, or from nobody where the script says so.
abbrev pub sent_caused : Here → ℕ → ℕ → ℕ → FrameKind → Bool
sent_caused h k from to carried =
    (k == last_frame h.lines + 1) && (is_node h.header to
    && (if from == 0 then is_junk_to to h.event && same_frame carried frame.Junk
    else is_node h.header from && (not (is_down h.start h.lines from) && not (same_frame carried frame.Junk))))

-- The event delivers this frame: the one that it names, or the open frames in their order.
abbrev pub delivers : Here → ℕ → Event → Bool
delivers h k (event.Deliver j) = frame_no (take h.first h.lines) j == k
delivers h k event.Settle = is_first k (open_frames h.lines)
delivers h k event.Quiesce = is_first k (open_frames h.lines)
delivers h k _ = false

-- frames that a node takes whenever it is up
abbrev pub is_always_taken : FrameKind → Bool
is_always_taken carried = list_any (same_frame carried) (frame.Told ∷ frame.Query ∷ frame.Hello ∷ [])

-- `got`. It was sent to a node that is up, and is a message.
abbrev pub got_caused : Here → ℕ → Bool
got_caused h k =
    delivers h k h.event && frame_is (λ from to carried. not (is_down h.start h.lines to) && not (same_frame carried frame.Junk)) h.lines k

-- `void`. It was sent, and the node is down or the frame one that it needn't take.
abbrev pub void_caused : Here → ℕ → Bool
void_caused h k =
    delivers h k h.event && frame_is (λ from to carried. is_down h.start h.lines to || not (is_always_taken carried)) h.lines k

-- the event loses this frame
abbrev pub loses : Here → ℕ → Event → Bool
loses h k (event.Lose j) = frame_no (take h.first h.lines) j == k
loses h k _ = false

-- `dropped`. The script loses a frame that was sent.
abbrev pub dropped_caused : Here → ℕ → Bool
dropped_caused h k = loses h k h.event && has_frame h.lines k

-- What is said of the run.

-- the run before the event, where it was refused
abbrev pub past_of : Here → Past
past_of h = record { start = h.start; count = h.number - 1; accepted = h.accepted; lines = h.lines }

-- the number is that of the cause
abbrev pub is_cause : ℕ → Option ℕ → Bool
is_cause c None = false
is_cause c (Some d) = d == c

-- `refused`. The cause is the first that holds; 12 stands where a doomed action is asked more, and no lower one holds.
abbrev pub refused_caused : Here → ℕ → Bool
refused_caused h c =
    if c == 12 then holds_in (is_doomed h.accepted h.lines) (label_doomed h.event) && is_behind_doom (refusal h.header (past_of h) h.event)
    else is_cause c (refusal h.header (past_of h) h.event)

-- the event arms the disk of this node
abbrev pub arms : ℕ → Event → Bool
arms n (event.Stop m calls kind) = m == n
arms n _ = false

-- the event is a quiesce
abbrev pub is_quiesce : Event → Bool
is_quiesce event.Quiesce = true
is_quiesce _ = false

-- every node is up, no frame is open, and no action waits
abbrev pub is_still : Here → Bool
is_still h =
    list_all (λ n. not (is_down h.start h.lines n)) (nodes_of h.header) && (not (has_some (open_frames h.lines))
    && list_all (λ a. not (is_waiting (past_of h) a.label)) (acts h.lines))

-- `quiet`. It says yes only where all is still.
abbrev pub quiet_caused : Here → Bool → Bool
quiet_caused h still = is_quiesce h.event && (if still then is_still h else true)

-- the event shows this object
abbrev pub shows_object : ℕ → Event → Bool
shows_object x (event.Show y) = y == x
shows_object x _ = false

-- `entry`. It is as the lines before the event say, counted from where the run began.
abbrev pub entry_caused : Here → ℕ → ℕ → List ℕ → List ℕ → Bool
entry_caused h x v servers stores =
    let before = take h.first h.lines in
    shows_object x h.event && (((entry_from h.header h.start.marks before x).version == v)
    && (same_list (servers_of_line (object_line h.header x)) servers && same_list (listed h.header before x) stores))

-- the version, the writer and the payload are those of this state
abbrev pub is_state : ℕ → Uid → List ℕ → ObjectState → Bool
is_state v u payload s = (s.version == v) && (uid_eq s.writer u && same_list s.payload payload)

-- `copy`. Of a store that is listed it is the last state, by the lines before the event, counted from where the run began.
abbrev pub copy_caused : Here → ℕ → ℕ → ℕ → Uid → List ℕ → Bool
copy_caused h n x v u payload =
    let before = take h.first h.lines in
    shows_object x h.event && (not (is_down h.start h.lines n) && (not (is_among (listed h.header before x) n) || is_state v u payload (last_from h.header h.start.marks before x)))
