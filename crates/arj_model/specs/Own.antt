-- The lines of an accepted event: those of its own, with which it begins or ends, and which may stand between them.
use Rattle.std.specs.Prelude.{◌≡◌, ◌⊎◌, ◌<◌, ℕ, ◌+◌, List, [], ◌∷◌, Bool, true, false, ◌==◌, ◌&&◌, ◌||◌, not, if◌then◌else◌, Option, Some}
use Rattle.std.specs.Prelude.{None, ⊤}
use Rattle.std.specs.List.{list_any}
use Rattle.std.specs.Option.{option_map}
use Rattle.std.specs.Str.{bytes_eq}
use Rattle.arj_journal.specs.declared.body.Body.{Body}
use Rattle.arj_journal.specs.declared.body.Body.TheVariants as body
use Rattle.arj_journal.specs.declared.body.Cause.{Cause}
use Rattle.arj_journal.specs.declared.body.Cause.TheVariants as cause
use Rattle.arj_journal.specs.declared.body.FrameKind.TheVariants as frame
use Rattle.arj_journal.specs.declared.body.Kind.{Kind}
use Rattle.arj_journal.specs.declared.body.Kind.TheVariants as kind
use Rattle.arj_journal.specs.declared.body.Line.{Line}
use Rattle.arj_journal.specs.declared.body.Which.TheVariants as which
use Rattle.arj_journal.specs.declared.event.Event.{Event}
use Rattle.arj_journal.specs.declared.event.Event.TheVariants as event
use Rattle.arj_journal.specs.declared.header.Header.{Header}
use Rattle.arj_text.specs.declared.label.Label.{Label}
use Rattle.arj_text.specs.Label.{name}
use Rattle.arj_model.specs.Actions.{Act, acts, act_in, is_over, path_in}
use Rattle.arj_model.specs.Past.{Past}
use Rattle.arj_model.specs.CauseSpans.{is_doomed}
use Rattle.arj_model.specs.Refusals.{next_uid, incarnation, is_serializing, frame_no, last_frame}
use Rattle.arj_start.specs.Kinds.{is_serial}

-- Nodes of events.

-- the node of the action with this label
abbrev pub node_of : List Line → List ℕ → Option ℕ
node_of lines l = option_map (λ a. a.uid.node) (act_in (acts lines) l)

-- the node that a line says the frame with this number is for, or what was found before
abbrev pub receiver_step : ℕ → Body → Option ℕ → Option ℕ
receiver_step k (body.Sent j from to carried) found = if j == k then Some to else found
receiver_step k _ found = found

-- the same over lines
abbrev pub receiver_from : ℕ → Option ℕ → List Line → Option ℕ
receiver_from k found [] = found
receiver_from k found (line ∷ lines) = receiver_from k (receiver_step k line.body found) lines

-- the node that the frame with this number is for
abbrev pub receiver : List Line → ℕ → Option ℕ
receiver lines k = receiver_from k None lines

-- the node that works on an event behind its own lines, where there is one alone
abbrev pub node_of_event : List Line → Event → Option ℕ
node_of_event lines (event.Call l x op) = node_of lines (name l)
node_of_event lines (event.Include l x n) = node_of lines (name l)
node_of_event lines (event.Commit l) = node_of lines (name l)
node_of_event lines (event.Abort l) = node_of lines (name l)
node_of_event lines (event.GiveUp l) = node_of lines (name l)
node_of_event lines (event.Deliver k) = receiver lines (frame_no lines k)
node_of_event lines (event.Tick n) = Some n
node_of_event lines (event.Restart n) = Some n
node_of_event lines _ = None

-- Own lines.

-- an action of this kind began at its parent's node
abbrev pub BeginsBelow : Past → Label → Label → Kind → List Body → Type 0
BeginsBelow past l p k own =
    (n : ℕ) × (node_of past.lines (name p) ≡ Some n) × (own ≡ body.Began l k (next_uid past.start past.lines n) (Some p) ∷ [])

-- The actions that an abort ends, the latest begun first: the action with this number, and those below it that are open.
abbrev pub aborted_by : List Line → ℕ → List Act → List Act
aborted_by lines id [] = []
aborted_by lines id (a ∷ older) =
    if not (is_over lines a) && list_any (λ b. b.id == id) (path_in older a) then a ∷ aborted_by lines id older else aborted_by lines id older

-- the same of an action that may not be there
abbrev pub aborted_of : List Line → Option Act → List Act
aborted_of lines None = []
aborted_of lines (Some a) = aborted_by lines a.id (acts lines)

-- one line for each of these actions, in their order, that it was aborted because the script asked for it
abbrev pub AreAborted : List Act → List Body → Type 0
AreAborted [] [] = ⊤
AreAborted (a ∷ as_begun) (body.Aborted l cause.Asked ∷ own) = (name l ≡ a.label) × AreAborted as_begun own
AreAborted _ _ = ⊥

-- the line that a commit begins with, by the kind of the action
abbrev pub commit_line : Kind → Label → Body
commit_line kind.Nested l = body.Committed l
commit_line kind.Serial l = body.Ended l
commit_line _ l = body.Committing l

-- a commit begins with that line, or a doomed action is aborted in its place
abbrev pub BeginsCommit : Past → Label → Option Act → List Body → Type 0
BeginsCommit past l None own = ⊥
BeginsCommit past l (Some a) own =
    (own ≡ commit_line a.kind l ∷ [])
    ⊎ ((own ≡ body.Aborted l cause.Doomed ∷ []) × (is_serial a.kind ≡ false) × (is_doomed past.accepted past.lines (name l) ≡ true))

-- one line or more, each that this action gave up a node, the nodes increasing
abbrev pub AreGiveUps : Label → List Body → Type 0
AreGiveUps l (body.GaveUp m n ∷ []) = m ≡ l
AreGiveUps l (body.GaveUp m n ∷ body.GaveUp k i ∷ own) = (m ≡ l) × (n < i) × AreGiveUps l (body.GaveUp k i ∷ own)
AreGiveUps l _ = ⊥

-- a frame was delivered, with or without effect
abbrev pub IsDelivery : ℕ → List Body → Type 0
IsDelivery k own = (own ≡ body.Got k ∷ []) ⊎ (own ≡ body.Void k ∷ [])

-- The node is back with a greater incarnation, or stopped before it was.
abbrev pub IsRestart : Past → ℕ → List Body → Type 0
IsRestart past n own = ((i : ℕ) × (incarnation past.start past.lines n < i) × (own ≡ body.Up n i ∷ [])) ⊎ (own ≡ body.Halted n ∷ [])

-- The lines that an accepted event begins with.
abbrev pub Begins : Header → Past → Event → List Body → Type 0
Begins header past (event.Begin l n) own = own ≡ body.Began l kind.Top (next_uid past.start past.lines n) None ∷ []
Begins header past (event.Serial l n) own = own ≡ body.Began l kind.Serial (next_uid past.start past.lines n) None ∷ []
Begins header past (event.BeginIn l p) own =
    BeginsBelow past l p (if is_serializing past.lines (name p) then kind.Constituent else kind.Nested) own
Begins header past (event.Top l p) own = BeginsBelow past l p kind.Independent own
Begins header past (event.Commit l) own = BeginsCommit past l (act_in (acts past.lines) (name l)) own
Begins header past (event.Abort l) own = AreAborted (aborted_of past.lines (act_in (acts past.lines) (name l))) own
Begins header past (event.GiveUp l) own = AreGiveUps l own
Begins header past (event.Deliver k) own = IsDelivery (frame_no past.lines k) own
Begins header past (event.Lose k) own = own ≡ body.Dropped (frame_no past.lines k) ∷ []
Begins header past (event.Crash n) own = own ≡ body.Halted n ∷ []
Begins header past (event.Restart n) own = IsRestart past n own
Begins header past (event.Stop n calls k) own = own ≡ body.Armed n ∷ []
Begins header past (event.Junk n bytes) own = (own ≡ body.Sent (last_frame past.lines + 1) 0 n frame.Junk ∷ []) ⊎ (own ≡ [])
Begins header past _ own = own ≡ []

-- The limit of frames was met.
abbrev pub IsFrameLimit : List Body → Type 0
IsFrameLimit last = last ≡ body.Limit which.Frames ∷ []

-- none, or that
abbrev pub MayMeetLimit : List Body → Type 0
MayMeetLimit last = (last ≡ []) ⊎ IsFrameLimit last

-- The line that an accepted event ends with, by what it began with: of a quiesce whether all was quiet; and in place of
-- that, and of the frame of a junk event, or behind what sends, the limit of frames.
abbrev pub Ends : Event → List Body → List Body → Type 0
Ends event.Quiesce own last = ((b : Bool) × (last ≡ body.Quiet b ∷ [])) ⊎ IsFrameLimit last
Ends (event.Junk n bytes) [] last = IsFrameLimit last
Ends (event.Call l x op) own last = MayMeetLimit last
Ends (event.Include l x n) own last = MayMeetLimit last
Ends (event.Commit l) own last = MayMeetLimit last
Ends (event.Abort l) own last = MayMeetLimit last
Ends (event.GiveUp l) own last = MayMeetLimit last
Ends (event.Deliver k) own last = MayMeetLimit last
Ends (event.Tick n) own last = MayMeetLimit last
Ends event.Settle own last = MayMeetLimit last
Ends (event.Restart n) own last = MayMeetLimit last
Ends e own last = last ≡ []

-- Lines between these.

-- why a commit that was called may end in an abort, other than by a giveup
abbrev pub is_refusal_of_commit : Cause → Bool
is_refusal_of_commit cause.Asked = false
is_refusal_of_commit cause.Doomed = false
is_refusal_of_commit (cause.Lost n) = false
is_refusal_of_commit _ = true

-- what a node does at an event or a message: answers, ends of commits, locks, bindings, states and frames
abbrev pub is_work : Body → Bool
is_work (body.Ok l x op answer) = true
is_work (body.Includes l x n) = true
is_work (body.Conflict l holder mode n) = true
is_work (body.Changed l n difference) = true
is_work (body.Committed l) = true
is_work (body.Aborted l c) = is_refusal_of_commit c
is_work (body.Excluded l x n) = true
is_work (body.Granted n u o mode) = true
is_work (body.Lowered n u o) = true
is_work (body.Bound x b n) = true
is_work (body.Active n x b) = true
is_work (body.Told n u e part) = true
is_work (body.Prepared n u role) = true
is_work (body.Done n u role e) = true
is_work (body.Sent k from to frame.Junk) = false
is_work (body.Sent k from to carried) = true
is_work (body.Halted n) = true
is_work _ = false

-- a frame was delivered
abbrev pub is_delivery : Body → Bool
is_delivery (body.Got k) = true
is_delivery (body.Void k) = true
is_delivery _ = false

-- Which lines may stand in an accepted event between those that it begins and ends with.
abbrev pub may_stand : Event → Body → Bool
may_stand (event.Call l x op) b = is_work b
may_stand (event.Include l x n) b = is_work b
may_stand (event.Commit l) b = is_work b
may_stand (event.Abort l) b = is_work b
may_stand (event.GiveUp l) (body.Lost m n) = bytes_eq (name m) (name l)
may_stand (event.GiveUp l) (body.Aborted m (cause.Lost n)) = bytes_eq (name m) (name l)
may_stand (event.GiveUp l) b = is_work b
may_stand (event.Deliver k) b = is_work b
may_stand (event.Tick n) b = is_work b
may_stand event.Settle b = is_work b || is_delivery b
may_stand event.Quiesce b = is_work b || is_delivery b
may_stand (event.Restart n) (body.Recovered m u) = m == n
may_stand (event.Restart n) b = is_work b
may_stand (event.Show x) (body.Entry y v servers stores) = y == x
may_stand (event.Show x) (body.Copy n y v u payload) = y == x
may_stand (event.Show x) (body.Halted n) = true
may_stand e b = false

-- it is this node
abbrev pub is_node_in : Option ℕ → ℕ → Bool
is_node_in None n = false
is_node_in (Some m) n = m == n

-- A node that halts does nothing after it: in an event at one node a `halted` line is that node's, and the last line.
abbrev pub halts_last : Option ℕ → List Body → Bool
halts_last at [] = true
halts_last at (body.Halted n ∷ []) = is_node_in at n
halts_last at (body.Halted n ∷ b ∷ bs) = false
halts_last at (b ∷ bs) = halts_last at bs

-- a settle, a quiesce and a show go on at another node; any other event is at one, or at none
abbrev pub halts_fit : List Line → Event → List Body → Bool
halts_fit lines event.Settle bs = true
halts_fit lines event.Quiesce bs = true
halts_fit lines (event.Show x) bs = true
halts_fit lines e bs = halts_last (node_of_event lines e) bs
