-- What has to be shown of a relation so that it holds in each run: that it holds of what a format leaves, and that each
-- handler keeps it, wherever a stop falls.
use Rattle.std.specs.Prelude.{⊤, ◌≡◌, ℕ, ◌+◌, Bool, true, false, if◌then◌else◌, List, [], Option, Some, None, IfSome, is_some, ◌&&◌, nat_le}
use Rattle.std.specs.List.{AllByRecursion}
use Rattle.std.specs.Map.{lookup}
use Rattle.std.specs.BTreeMap.{is_at}
use Rattle.arj_protocol.specs.Words.{Header, Label, label_cmp, Kind, Body, Message}
use Rattle.arj_protocol.specs.Words.kind
use Rattle.arj_protocol.specs.Effect.{Effect, Disk, Did}
use Rattle.arj_protocol.specs.Coord.{Coord}
use Rattle.arj_protocol.specs.Asking.{again_all, begin_action}
use Rattle.arj_protocol.specs.Node.{Parts, Took, handle, is_meant, with_coord}
use Rattle.arj_protocol.specs.Follow.{tick_outs}
use Rattle.arj_protocol.specs.Step.{Node, Input, acts, begin_refusal, refusal_up, parent_of, parts_in, restart_outs}
use Rattle.arj_protocol.specs.Step as input
use Rattle.arj_protocol.specs.Tree.{at_place}
use Rattle.arj_protocol.specs.World.{World, Frame, Labelled, world_from}
use Rattle.arj_law_parts.specs.moves.Seen.{In, at, up, down, said, given, AreQuiet}
use Rattle.arj_start.specs.Start.{Start}
use Rattle.arj_promise.specs.Runs.{Post, Seen, see}
use Rattle.arj_promise.specs.Starts.{IsFormed}
use Rattle.arj_law_parts.specs.moves.Walks.{Walks, Up, halted}
use Rattle.arj_start.specs.Kinds.{is_serial}

-- what a label stands for
abbrev pub label_at : Label → List (Label × Labelled) → Option Labelled
label_at l labels = lookup (is_at (label_cmp l)) labels

-- a nested action, or a constituent where the parent is serializing
abbrev pub kind_below : Labelled → Kind
kind_below g = if g.serial then kind.Constituent else kind.Nested

-- The label is new, and the action's kind fits its parent, at whose node it begins.
abbrev pub MayGive : List (Label × Labelled) → ℕ → Kind → Option Label → Type 0
MayGive labels k kind.Top None = ⊤
MayGive labels k kind.Serial None = ⊤
MayGive labels k kind.Independent (Some p) = (g : Labelled) × (label_at p labels ≡ Some g) × (g.node ≡ k)
MayGive labels k how (Some p) = (g : Labelled) × (label_at p labels ≡ Some g) × (g.node ≡ k) × (how ≡ kind_below g)
MayGive labels k how parent = ⊥

-- the inputs about an action that is there already
abbrev pub is_act : Input → Bool
is_act (input.Call l x o) = true
is_act (input.Include l x s) = true
is_act (input.Commit l) = true
is_act (input.Abort l) = true
is_act (input.GiveUp l) = true
is_act _ = false

-- the coordinator's part of a step, as effects and what it leaves
abbrev pub DidKeeps : (Seen → Type 0) → ℕ → ℕ → Disk → Parts → Did Coord → Seen → Type 0
DidKeeps P e k d t did M = Walks P e k did.outs (Up P k (with_coord t did.part)) d M

-- it holds wherever a run of the header may begin
abbrev pub IsAtStarts : Header → (Seen → Type 0) → Type 0
IsAtStarts hd P = (st : Start) → IsFormed hd st → P (see [] (world_from hd st))

-- The relation is kept: by lines at which it doesn't look; by a node that stops; by each message that can be meant and is taken, each input
-- about an action, and the beginning of one; by a tick, and by a restart; and it holds at first.
pub record Keeps (hd : Header) (P : Seen → Type 0) : Type 0 where
  pub quiet : (e : ℕ) (bs : List Body) (M : Seen) → AreQuiet bs → P M → P (said e bs M)
  pub stop : (e k : ℕ) (d : Disk) (live : Option Parts) (M : Seen) → P (at k d live M) → P (halted e k d M)
  pub message : (e k : ℕ) (d : Disk) (t v : Parts) (from : ℕ) (m : Message) (outs : List Effect) (M : Seen)
      → P (up k d t M) → In (record { from = from; to = k; message = m }) M.sent → is_meant t m ≡ true →
      handle k d t from m ≡ Took v outs → Walks P e k outs (Up P k v) d M
  pub act : (e k : ℕ) (d : Disk) (t : Parts) (i : Input) (M : Seen) → is_act i ≡ true → refusal_up hd i t.coord ≡ None
      → P (up k d t M) → DidKeeps P e k d t (acts i d.intents t.coord) M
  pub begin : (e k : ℕ) (d : Disk) (t : Parts) (l : Label) (how : Kind) (parent : Option Label) (M : Seen)
      → label_at l M.labels ≡ None → MayGive M.labels k how parent → begin_refusal how t.coord parent ≡ None
      → P (up k d t M) → DidKeeps P e k d t (begin_action l how parent (parent_of parent t.coord) t.coord)
      (given l (record { node = k; serial = is_serial how }) M)
  pub tick : (e k : ℕ) (d : Disk) (t : Parts) (M : Seen) → P (up k d t M)
      → Walks P e k (tick_outs (record { number = k; disk = d; live = Some t }) t)
      (Up P k (with_coord t (again_all t.coord.doings t.coord).part)) d M
  pub restart : (e k : ℕ) (d : Disk) (M : Seen) → P (down k d M) →
      Walks P e k (restart_outs hd k (d.inc + 1) d) (Up P k (parts_in k (d.inc + 1) d)) d M
  pub first : IsAtStarts hd P

-- a store to include is a node of the header
abbrev pub AsksNode : Header → Input → Type 0
AsksNode hd (input.Include l x s) = (nat_le 1 s && nat_le s hd.nodes) ≡ true
AsksNode hd i = ⊤

-- The same, where an include asks for a store of the header; and so much holds at first.
pub record KeepsFrom (hd : Header) (F : Type 0) (P : Seen → Type 0) : Type 0 where
  pub quiet : (e : ℕ) (bs : List Body) (M : Seen) → AreQuiet bs → P M → P (said e bs M)
  pub stop : (e k : ℕ) (d : Disk) (live : Option Parts) (M : Seen) → P (at k d live M) → P (halted e k d M)
  pub message : (e k : ℕ) (d : Disk) (t v : Parts) (from : ℕ) (m : Message) (outs : List Effect) (M : Seen)
      → P (up k d t M) → In (record { from = from; to = k; message = m }) M.sent → is_meant t m ≡ true →
      handle k d t from m ≡ Took v outs → Walks P e k outs (Up P k v) d M
  pub act : (e k : ℕ) (d : Disk) (t : Parts) (i : Input) (M : Seen) → is_act i ≡ true → AsksNode hd i → refusal_up hd i t.coord ≡ None
      → P (up k d t M) → DidKeeps P e k d t (acts i d.intents t.coord) M
  pub begin : (e k : ℕ) (d : Disk) (t : Parts) (l : Label) (how : Kind) (parent : Option Label) (M : Seen)
      → label_at l M.labels ≡ None → MayGive M.labels k how parent → begin_refusal how t.coord parent ≡ None
      → P (up k d t M) → DidKeeps P e k d t (begin_action l how parent (parent_of parent t.coord) t.coord)
      (given l (record { node = k; serial = is_serial how }) M)
  pub tick : (e k : ℕ) (d : Disk) (t : Parts) (M : Seen) → P (up k d t M)
      → Walks P e k (tick_outs (record { number = k; disk = d; live = Some t }) t)
      (Up P k (with_coord t (again_all t.coord.doings t.coord).part)) d M
  pub restart : (e k : ℕ) (d : Disk) (M : Seen) → P (down k d M) →
      Walks P e k (restart_outs hd k (d.inc + 1) d) (Up P k (parts_in k (d.inc + 1) d)) d M
  pub first : F

-- so it is, and the relation holds at first
abbrev pub KeepsAsked : Header → (Seen → Type 0) → Type 0
KeepsAsked hd P = KeepsFrom hd (IsAtStarts hd P) P

-- so it is, whatever holds at first: where the relation holds once, it holds from there on
abbrev pub KeepsOn : Header → (Seen → Type 0) → Type 0
KeepsOn hd P = KeepsFrom hd ⊤ P

-- a frame's message, where it has one, is among those that were sent
abbrev pub IsSent : List Post → Frame → Type 0
IsSent sent f = IfSome f.message (λ m. In (record { from = f.from; to = f.to; message = m }) sent)

-- bytes that are no message are for a node of the header
abbrev pub HasPlace : Header → ℕ → Option Message → Type 0
HasPlace hd to None = (nat_le 1 to && nat_le to hd.nodes) ≡ true
HasPlace hd to (Some m) = ⊤

-- What is seen of a world rests on: the frames were sent, or are bytes for a node, the header is the script's, each node has its number,
-- there are as many nodes as the header says, and each label is of one of them.
pub record Stands (hd : Header) (sent : List Post) (w : World) : Type 0 where
  pub frames : AllByRecursion (IsSent sent) w.frames
  pub junk : AllByRecursion (λ (f : Frame). HasPlace hd f.to f.message) w.frames
  pub header : w.header ≡ hd
  pub numbers : (k : ℕ) (n : Node) → at_place k w.nodes ≡ Some n → n.number ≡ k
  pub places : (k : ℕ) → (nat_le 1 k && nat_le k hd.nodes) ≡ true → is_some (at_place k w.nodes) ≡ true
  pub labels : AllByRecursion (λ (g : Label × Labelled). is_some (at_place g.1.node w.nodes) ≡ true) w.labels

-- the relation holds of what is seen of the world
pub record Holds (hd : Header) (P : Seen → Type 0) (w : World) : Type 0 where
  pub sent : List Post
  pub stands : Stands hd sent w
  pub holds : P (see sent w)
