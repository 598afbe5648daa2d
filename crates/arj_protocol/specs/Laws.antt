-- What the laws of the protocol say.
use Rattle.std.specs.Prelude.{◌≢◌, ⊤, ◌≡◌, ℕ, ◌-◌, Bool, true, false, not, ◌&&◌, ◌||◌, ◌==◌, nat_lt, if◌then◌else◌, List, [], ◌∷◌, ◌++◌}
use Rattle.std.specs.Prelude.{map, Option, Some, None}
use Rattle.std.specs.List.{AllByRecursion, list_any}
use Rattle.arj_protocol.specs.Words.ask
use Rattle.arj_protocol.specs.Words.{Uid, End, Part, Body, Line, Row, Message, Head, uid_eq, is_on, nobody, object, entry, grant_row}
use Rattle.arj_protocol.specs.Words.{drop_rows, pass_rows, lower_row, Ask, asks}
use Rattle.arj_protocol.specs.Words.ending
use Rattle.arj_protocol.specs.Words.body
use Rattle.arj_protocol.specs.Words.part
use Rattle.arj_protocol.specs.Words.message
use Rattle.arj_protocol.specs.Order.{at_number, at_uid}
use Rattle.arj_protocol.specs.Effect.{Effect, Say, Send, Do}
use Rattle.arj_protocol.specs.Copy.{Copy, row_for, holds}
use Rattle.arj_protocol.specs.Named.{Named}
use Rattle.arj_protocol.specs.Server.{Server}
use Rattle.arj_protocol.specs.Naming.{Naming}
use Rattle.arj_protocol.specs.Node.{Parts, Handled, Void, Took}
use Rattle.arj_protocol.specs.Tree.{at_place}
use Rattle.arj_protocol.specs.Step.{Node, Input, Step, step}
use Rattle.arj_protocol.specs.Order.{is_empty}
use Rattle.arj_protocol.specs.World.{World, Frame, Arm, count_works, cut, halted_outs, new_frame}

-- ---- one node's step

-- Every other node is as it was; the frames that are new are this node's, and journal and frames only grow.
pub record Local (n : ℕ) (old new : World) : Type 0 where
  pub others : (m : ℕ) → m ≢ n → at_place m new.nodes ≡ at_place m old.nodes
  pub sent : List Frame
  pub frames : new.frames ≡ old.frames ++ sent
  pub sender : AllByRecursion (λ f. f.from ≡ n) sent
  pub said : List Line
  pub lines : new.lines ≡ old.lines ++ said

-- what a node does in a step: all effects, or those up to a stop and that it halted
abbrev pub effects_until : ℕ → Node → Step → Option Arm → List Effect
effects_until k n s None = s.outs
effects_until k n s (Some a) =
    if nat_lt (count_works s.halting) a.works then s.outs else halted_outs k (cut (a.works - 1) a.how s.halting n.disk)

-- what a node that is there does with an input
abbrev pub effects_of_node : ℕ → Input → World → Option Node → List Effect
effects_of_node k i w None = []
effects_of_node k i w (Some n) = effects_until k n (step w.header n i) (at_number k w.arms)

-- what the node of this number does with an input
abbrev pub effects_of : ℕ → Input → World → List Effect
effects_of k i w = effects_of_node k i w (at_place k w.nodes)

-- ---- events

-- a frame without what became of it
abbrev pub as_sent : Frame → Frame
as_sent f = new_frame f.from f.to f.message

-- journal and frames only grow
pub record Grows (old new : World) : Type 0 where
  pub sent : List Frame
  pub frames : map as_sent new.frames ≡ map as_sent old.frames ++ sent
  pub said : List Line
  pub lines : new.lines ≡ old.lines ++ said

-- ---- the lock table that lines give

-- the path of each action that holds locks, and how many leading Uids of it end with its top
pub record Holders : Type 0 where
  pub path : Uid → List Uid
  pub tops : Uid → ℕ

-- the same part of a node
abbrev pub same_part : Part → Part → Bool
same_part part.Naming part.Naming = true
same_part part.Server part.Server = true
same_part _ _ = false

-- an end passes the action's rows on, or drops them and those of its descendants
abbrev pub rows_ended : End → Uid → List Row → List Row
rows_ended ending.Commit u rows = pass_rows u rows
rows_ended ending.Abort u rows = drop_rows u rows

-- What a line does to the locks on an object, or on an entry, at a part of a node.
abbrev pub rows_by : Holders → ℕ → Part → Uid → Body → List Row → List Row
rows_by h n p o (body.Granted m u x how) rows =
    if (m == n) && uid_eq x o then grant_row (row_for o (h.path u) (h.tops u) how) rows else rows
rows_by h n p o (body.Lowered m u x) rows = if (m == n) && uid_eq x o then lower_row u o rows else rows
rows_by h n p o (body.Active m x b) rows = if (m == n) && uid_eq (object x) o then [] else rows
rows_by h n p o (body.Told m u e q) rows = if (m == n) && same_part p q then rows_ended e u rows else rows
rows_by h n p o (body.Up m i) rows = if m == n then [] else rows
rows_by h n p o (body.Halted m) rows = if m == n then [] else rows
rows_by h n p o _ rows = rows

-- what the lines of effects do, one after another
abbrev pub rows_after : Holders → ℕ → Part → Uid → List Effect → List Row → List Row
rows_after h n p o [] rows = rows
rows_after h n p o (Say b ∷ es) rows = rows_after h n p o es (rows_by h n p o b rows)
rows_after h n p o (Send to m ∷ es) rows = rows_after h n p o es rows
rows_after h n p o (Do w ∷ es) rows = rows_after h n p o es rows

-- the locks of a copy that is there
abbrev pub rows_in_copy : Option Copy → List Row
rows_in_copy None = []
rows_in_copy (Some c) = c.rows

-- the locks on an object at a server
abbrev pub server_rows : ℕ → Server → List Row
server_rows x s = rows_in_copy (at_number x s.objects)

-- the locks of an entry that naming has
abbrev pub rows_in_named : Option Named → List Row
rows_in_named None = []
rows_in_named (Some o) = o.rows

-- the locks on an object's entry at naming
abbrev pub naming_rows : ℕ → Naming → List Row
naming_rows x n = rows_in_named (at_number x n.objects)

-- the server's locks on object x after these effects are what their lines make of those before
abbrev pub ServerTable : Holders → ℕ → ℕ → Server → List Effect → Server → Type 0
ServerTable h n x s outs t = server_rows x t ≡ rows_after h n part.Server (object x) outs (server_rows x s)

-- so it is of naming's locks on the entry of object x
abbrev pub NamingTable : Holders → ℕ → Naming → List Effect → Naming → Type 0
NamingTable h x n outs t = naming_rows x t ≡ rows_after h 1 part.Naming (entry x) outs (naming_rows x n)

-- the path is that of its holder: of its action at a server, of its top at naming
pub record IsPathOf (h : Holders) (u : Uid) (path : List Uid) (tops : ℕ) : Type 0 where
  pub path_is : h.path u ≡ path
  pub tops_are : h.tops u ≡ tops

-- no end is of nobody, the writer of states that no commit wrote
abbrev pub AreOfActions : List (Uid × End) → Type 0
AreOfActions ends = AllByRecursion (λ (e : Uid × End). uid_eq nobody e.0 ≡ false) ends

-- ---- what a part knows of an action

-- an object at a server has no lock and no overlay of the action or below it
pub record UnknownToCopy (u : Uid) (c : Copy) : Type 0 where
  pub locks : holds u c.rows ≡ false
  pub overlays : list_any (λ e. is_on e.holder u) c.stack ≡ false

-- an object at naming has no lock, no binding and no include of the action
pub record UnknownToNamed (u : Uid) (o : Named) : Type 0 where
  pub locks : holds u o.rows ≡ false
  pub made : at_uid u o.made ≡ None
  pub asked : is_on o.asked u ≡ false

-- each end is unknown to the object's part, where there is one
abbrev pub AreUnknownAt : ℕ → List (Uid × End) → Server → Type 0
AreUnknownAt x ends s = AllByRecursion (λ (e : Uid × End). (c : Copy) → at_number x s.objects ≡ Some c → UnknownToCopy e.0 c) ends

-- the server knows nothing of the action
pub record UnknownToServer (u : Uid) (s : Server) : Type 0 where
  pub objects : AllByRecursion (λ (e : ℕ × Copy). UnknownToCopy u e.1) s.objects
  pub kept : at_uid u s.kept ≡ None
  pub voted : is_on s.voted u ≡ false

-- naming knows nothing of the action
pub record UnknownToNaming (u : Uid) (n : Naming) : Type 0 where
  pub objects : AllByRecursion (λ (e : ℕ × Named). UnknownToNamed u e.1) n.objects
  pub confirmed : is_on n.confirmed u ≡ false

-- Nothing but the set of ended actions is changed.
pub record OnlyEnds (s t : Server) : Type 0 where
  pub inc : t.inc ≡ s.inc
  pub objects : t.objects ≡ s.objects
  pub kept : t.kept ≡ s.kept
  pub voted : t.voted ≡ s.voted

-- Nothing but the set of actions whose end naming was told is changed.
pub record OnlyTold (n t : Naming) : Type 0 where
  pub inc : t.inc ≡ n.inc
  pub count : t.count ≡ n.count
  pub objects : t.objects ≡ n.objects
  pub confirmed : t.confirmed ≡ n.confirmed

-- ---- objects that a message doesn't speak of

-- the object's part of the server, and of naming, is as it was
abbrev pub LeavesCopy : ℕ → Server → Server → Type 0
LeavesCopy x s t = at_number x t.objects ≡ at_number x s.objects

-- so is the object's part of naming
abbrev pub LeavesNamed : ℕ → Naming → Naming → Type 0
LeavesNamed x n m = at_number x m.objects ≡ at_number x n.objects

-- and where there is naming before there is after
abbrev pub LeavesNaming : ℕ → Option Naming → Option Naming → Type 0
LeavesNaming x None None = ⊤
LeavesNaming x (Some n) (Some m) = LeavesNamed x n m
LeavesNaming x _ _ = ⊥

-- the object is at both parts as it was
pub record LeavesParts (x : ℕ) (t v : Parts) : Type 0 where
  pub server : LeavesCopy x t.server v.server
  pub naming : LeavesNaming x t.naming v.naming

-- what a handler leaves: a void message changes nothing
abbrev pub LeavesObject : ℕ → Parts → Handled → Type 0
LeavesObject x t (Void outs) = ⊤
LeavesObject x t (Took v outs) = LeavesParts x t v

-- a grant on the object is named
abbrev pub names_grant : ℕ → List (ℕ × ℕ) → Bool
names_grant x grants = list_any (λ (g : ℕ × ℕ). g.0 == x) grants

-- A request speaks of an object where it names it, or brings ends.
abbrev pub ask_speaks : ℕ → Ask → Bool
ask_speaks x (ask.Bind y include avoid) = y == x
ask_speaks x (ask.Load y) = y == x
ask_speaks x (ask.Activate b st) = st.uid.num == x
ask_speaks x (ask.Record y b i g) = y == x
ask_speaks x (ask.Invoke y b i ends op) = (y == x) || not (is_empty ends)
ask_speaks x (ask.Vote i ties ends) = not (is_empty ends)
ask_speaks x (ask.Prepare states) = false
ask_speaks x (ask.Confirm grants excluded included) = names_grant x grants

-- a told and a hello may speak of any object; an answer, an acknowledgement and a query speak of none
abbrev pub other_speaks : Message → Bool
other_speaks (message.Told m) = true
other_speaks (message.Hello m) = true
other_speaks _ = false

-- a request speaks of the objects that it names, any other message as above
abbrev pub asked_speaks : ℕ → Message → Option (Head × Ask) → Bool
asked_speaks x m None = other_speaks m
asked_speaks x m (Some a) = ask_speaks x a.1

-- the message speaks of the object
abbrev pub speaks : ℕ → Message → Bool
speaks x m = asked_speaks x m (asks m)
