-- Where a line of a journal comes, what was asked by then, and at which places an answer to it may have been given. A
-- place of a journal is a number of lines: those before it.
use Rattle.std.specs.Prelude.{ℕ, ◌+◌, ◌-◌, List, [], ◌∷◌, ◌++◌, length, take, drop, find, filter, Bool, true, false, ◌==◌, ◌&&◌, nat_le}
use Rattle.std.specs.Prelude.{if◌then◌else◌, Option, Some, None}
use Rattle.std.specs.List.{list_any, range_with_len}
use Rattle.std.specs.Option.{option_map}
use Rattle.std.specs.Str.{bytes_eq}
use Rattle.arj_base.specs.declared.mode.Mode.{Mode}
use Rattle.arj_base.specs.declared.uid.Uid.{Uid}
use Rattle.arj_base.specs.Mode.{mode_code}
use Rattle.arj_base.specs.State.{class_code_of}
use Rattle.arj_base.specs.Uid.{uid_eq}
use Rattle.arj_class.specs.declared.op.Op.{Op}
use Rattle.arj_class.specs.declared.op.Op.TheVariants.{Get, Add, Set, Put, Deposit, Withdraw, Len, Push, Pop, GetKey, PutPair, Remove, Create, Destroy}
use Rattle.arj_class.specs.declared.value.Value.{Value}
use Rattle.arj_class.specs.declared.value.Value.TheVariants.{Counter, Register, Account, Queue, Table, Gone}
use Rattle.arj_journal.specs.LineWords.{frame_text}
use Rattle.arj_journal.specs.declared.body.Body.{Body}
use Rattle.arj_journal.specs.declared.body.Body.TheVariants as body
use Rattle.arj_journal.specs.declared.body.FrameKind.{FrameKind}
use Rattle.arj_journal.specs.declared.body.FrameKind.TheVariants as frame
use Rattle.arj_journal.specs.declared.body.Line.{Line}
use Rattle.arj_journal.specs.declared.event.Event.{Event}
use Rattle.arj_journal.specs.declared.event.Event.TheVariants as event
use Rattle.arj_journal.specs.declared.header.Header.{Header}
use Rattle.arj_text.specs.Label.{name}
use Rattle.arj_model.specs.Actions.{Act, Placed, acts, act_in, read, top_in, tops_in, uids}
use Rattle.arj_model.specs.Calls.{committings}
use Rattle.arj_model.specs.Past.{Past, Asked, asked_of, is_refused}
use Rattle.arj_start.specs.Start.{Start}
use Rattle.arj_model.specs.Refusals.{asks_by, has_ended, holds_of, is_committing, last_asked, unanswered}

-- Where a line comes: in which event, of which number, of a run with this header and start; which events were accepted by then, itself
-- among them where it is; how many lines stood before the event; and all that stand before the line.
pub record Here : Type 0 where
  pub header : Header
  pub start : Start
  pub accepted : List Asked
  pub event : Event
  pub number : ℕ
  pub first : ℕ
  pub lines : List Line

-- where the first line of an event comes, which wrote these
abbrev pub here_at : Header → Past → Event → List Body → Here
here_at header past e bodies = record {
  header = header;
  start = past.start;
  accepted = (if is_refused bodies then past.accepted else past.accepted ++ asked_of past e ∷ []);
  event = e;
  number = past.count + 1;
  first = length past.lines;
  lines = past.lines;
}

-- where the line behind this one comes
abbrev pub behind : Here → Body → Here
behind h b = record h { lines = h.lines ++ record { event = h.number; body = b } ∷ [] }

-- the lines of the event so far
abbrev pub of_event : Here → List Line
of_event h = drop h.first h.lines

-- Tests of what may not be there, and of what has no test of its own.

-- there is one, and it passes the test
abbrev pub holds_in : {A : Type 0} → (A → Bool) → Option A → Bool
holds_in test None = false
holds_in test (Some a) = test a

-- the modes are the same
abbrev pub same_mode : Mode → Mode → Bool
same_mode m n = mode_code m == mode_code n

-- so are the kinds of frame
abbrev pub same_frame : FrameKind → FrameKind → Bool
same_frame a b = bytes_eq (frame_text a) (frame_text b)

-- so are the pairs
abbrev pub same_pairs : List (ℕ × ℕ) → List (ℕ × ℕ) → Bool
same_pairs [] [] = true
same_pairs (p ∷ ps) (q ∷ qs) = (p.0 == q.0) && ((p.1 == q.1) && same_pairs ps qs)
same_pairs _ _ = false

-- so are the values
abbrev pub same_value : Value → Value → Bool
same_value (Counter m) (Counter n) = m == n
same_value (Register m) (Register n) = bytes_eq m n
same_value (Account m) (Account n) = m == n
same_value (Queue m) (Queue n) = bytes_eq m n
same_value (Table m) (Table n) = same_pairs m n
same_value (Gone c) (Gone d) = class_code_of c == class_code_of d
same_value _ _ = false

-- so are the operations
abbrev pub same_op : Op → Op → Bool
same_op Get Get = true
same_op (Add m) (Add n) = m == n
same_op (Set m) (Set n) = m == n
same_op (Put m) (Put n) = bytes_eq m n
same_op (Deposit m) (Deposit n) = m == n
same_op (Withdraw m) (Withdraw n) = m == n
same_op Len Len = true
same_op (Push m) (Push n) = m == n
same_op Pop Pop = true
same_op (GetKey m) (GetKey n) = m == n
same_op (PutPair j m) (PutPair k n) = (j == k) && (m == n)
same_op (Remove m) (Remove n) = m == n
same_op (Create v) (Create w) = same_value v w
same_op Destroy Destroy = true
same_op _ _ = false

-- the nodes of a run
abbrev pub nodes_of : Header → List ℕ
nodes_of header = range_with_len 1 header.nodes

-- the action with this Uid
abbrev pub act_by : List Line → Uid → Option Act
act_by lines u = find (λ a. uid_eq a.uid u) (acts lines)

-- the Uids of a path down to its top: entries are locked by tops alone
abbrev pub top_uids : List Act → List Uid
top_uids path = take (tops_in path) (uids path)

-- the action is the top of this path
abbrev pub is_top_in : Act → List Act → Bool
is_top_in a path = holds_in (λ top. top.id == a.id) (top_in path)

-- What is asked.

-- the event is a call
abbrev pub is_call : Event → Bool
is_call (event.Call l x op) = true
is_call _ = false

-- it is a call of this object by this operation
abbrev pub is_call_of : ℕ → Op → Event → Bool
is_call_of x op (event.Call l y asked) = (y == x) && same_op asked op
is_call_of x op _ = false

-- it is an include of this store for this object
abbrev pub is_include_of : ℕ → ℕ → Event → Bool
is_include_of x n (event.Include l y m) = (y == x) && (m == n)
is_include_of x n _ = false

-- the call or include of the action with this label that isn't answered, while the action is open
abbrev pub asking : Here → List ℕ → Option Asked
asking h l = if has_ended h.lines l then None else unanswered h.accepted h.lines l

-- of the action with this label, and of what it asks, this holds
abbrev pub asks_so : Here → List ℕ → (Act → Asked → Bool) → Bool
asks_so h l row = holds_of (λ a. holds_in (row a) (asking h l)) (act_in (acts h.lines) l)

-- the place of the line that calls the commit of the action with this label, where that commit is under way
abbrev pub commit_here : Here → List ℕ → Option ℕ
commit_here h l =
    if is_committing h.lines l then option_map (λ m. m.at) (find (λ m. holds_of (λ top. bytes_eq top.label l) (top_in m.it)) (committings h.lines)) else None

-- of the action with this label, and of the place where its commit was called, this holds while that is under way
abbrev pub commits_so : Here → List ℕ → (Act → ℕ → Bool) → Bool
commits_so h l row = holds_of (λ a. holds_in (row a) (commit_here h l)) (act_in (acts h.lines) l)

-- Spans. That of a call or include goes from the place before its event to the line that answers it, that of a commit from
-- the place before its `committing` line; both ends count.

-- at some place from this one up to the line, the lines so far show it
abbrev pub from_place : Here → ℕ → (List Line → Bool) → Bool
from_place h a shows = list_any (λ p. shows (take p h.lines)) (range_with_len a (length h.lines + 1 - a))

-- the line is that of a frame of one of these kinds, from one node to another
abbrev pub is_frame : ℕ → ℕ → List FrameKind → Body → Bool
is_frame from to kinds (body.Sent k m n carried) = (m == from) && ((n == to) && list_any (same_frame carried) kinds)
is_frame from to kinds _ = false

-- such a frame was sent behind this place
abbrev pub was_sent : Here → ℕ → ℕ → ℕ → List FrameKind → Bool
was_sent h a from to kinds = list_any (λ line. is_frame from to kinds line.body) (drop a h.lines)

-- the first of these lines passes the test
abbrev pub begins_with : (Body → Bool) → List Line → Bool
begins_with test [] = false
begins_with test (line ∷ rest) = test line.body

-- Answered at a place: the lines before it show this where the node's frame of one of these kinds to the action's node was sent
-- in the span. A node answers itself without a frame, at some place of the span.
abbrev pub answered : Here → ℕ → ℕ → ℕ → List FrameKind → (List Line → Bool) → Bool
answered h a home n kinds shows =
    if n == home then from_place h a shows
    else list_any (λ p. begins_with (is_frame n home kinds) (drop p h.lines) && shows (take p h.lines)) (range_with_len a (length h.lines - a))

-- Dooms.

-- the node that a call or include of the action with this label lost
abbrev pub lost_by : List ℕ → List Act → Body → Option ℕ
lost_by l acts (body.Lost m n) = if bytes_eq (name m) l then Some n else None
lost_by l acts _ = None

-- it was a call, which had sent this node an Invoke by this place
abbrev pub had_invoked : List Line → ℕ → Placed ℕ → Asked → Bool
had_invoked lines home lost k =
    is_call k.event && list_any (λ line. is_frame home lost.it (frame.Invoke ∷ []) line.body) (drop k.at (take lost.at lines))

-- The action with this label is doomed: a call of it was lost at a node that it had sent an Invoke.
abbrev pub is_doomed : List Asked → List Line → List ℕ → Bool
is_doomed accepted lines l =
    holds_of (λ a. list_any (λ lost. holds_in (had_invoked lines a.uid.node lost) (last_asked (filter (λ k. nat_le k.at lost.at) (asks_by accepted l))))
    (read (lost_by l) [] 0 lines)) (act_in (acts lines) l)
