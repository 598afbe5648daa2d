-- What holds of all nodes and of every message that was ever sent, in each run.
use Rattle.std.specs.Prelude.{◌≡◌, ◌≤◌, ℕ, true, List, Option, Some, None, length, ⊤, Contains}
use Rattle.arj_protocol.specs.Words.{Uid, Label, is_on, End, Message}
use Rattle.arj_protocol.specs.Coord.{Coord, number_of}
use Rattle.arj_protocol.specs.Effect.{Disk, Intent}
use Rattle.arj_protocol.specs.Node.{Parts}
use Rattle.arj_protocol.specs.Step.{Node}
use Rattle.arj_protocol.specs.Tree.{Branch, at_place, is_own}
use Rattle.arj_protocol.specs.World.{Labelled}
use Rattle.arj_law_parts.specs.parts.AskedObjects.{KnowsObjects}
use Rattle.arj_law_parts.specs.parts.Requests.{AreNumbered}
use Rattle.arj_law_parts.specs.parts.Ends.{AreOfCommits, IsSaidSo, IsSure, brought}
use Rattle.arj_law_parts.specs.parts.Actions.{Action, Agree, AreBegun, AreCounted}
use Rattle.arj_law_parts.specs.parts.Claims.{AreOfNode, IsFaithful, IsSettled}
use Rattle.arj_law_parts.specs.parts.Copies.{IsTree, Paths}
use Rattle.arj_law_parts.specs.parts.Incs.{SaysInc}
use Rattle.arj_law_parts.specs.parts.Messages.{AreOfTops, FitsMessage, Seals}
use Rattle.arj_law_parts.specs.parts.Nodes.{IsGoodNode}
use Rattle.arj_law_parts.specs.moves.Keeps.{label_at}
use Rattle.arj_law_parts.specs.moves.Seen.{In}
use Rattle.arj_promise.specs.Runs.{Post, Seen}
use Rattle.arj_start.specs.Kinds.{is_serial}

-- The records on node k's disk are of tops that were begun there, in this incarnation or an earlier one.
pub record IsGoodDisk (acts : List Action) (k : ℕ) (d : Disk) : Type 0 where
  pub tops : AreOfTops acts d.intents
  pub own : AreOfNode k d.inc d.intents

-- each label of a coordinator has its branch, and was given, to a serializing action exactly where the branch is one
abbrev pub KnowsLabels : List (Label × Labelled) → Coord → Type 0
KnowsLabels given c = (l : Label) (j : ℕ) → number_of l c ≡ Some j →
    (g : Labelled) × (b : Branch) × (label_at l given ≡ Some g) × (at_place j c.tree.branches ≡ Some b) × (is_serial b.kind ≡ g.serial)

-- What holds of node k that is up in incarnation i. Its server and its coordinator are good in every tree of paths that
-- has the actions begun so far, and are of this node and incarnation; its actions are counted; its server voted for whom a
-- message asked it to; what its coordinator has of ends is as they were decided; and what waits there is each action's last
-- request, about objects of its root, and plans name each object once.
pub record IsUp (acts : List Action) (sent : List Post) (given : List (Label × Labelled)) (k i : ℕ) (t : Parts) : Type 0 where
  pub good : (paths : Paths) → IsTree paths → Agree acts paths → IsGoodNode acts paths t
  pub node : t.coord.tree.node ≡ k
  pub inc : t.coord.tree.inc ≡ i
  pub server : t.server.inc ≡ i
  pub faithful : IsFaithful t.coord
  pub counted : AreCounted k i (length t.coord.tree.branches) acts
  pub known : KnowsLabels given t.coord
  pub voted : (w : Uid) → is_on t.server.voted w ≡ true → (p : Post) × In p sent × Seals p.message w
  pub sure : IsSure t.coord
  pub numbered : AreNumbered t.coord
  pub objects : KnowsObjects t.coord

-- a node's memory; while it is down, its actions are of this incarnation or earlier ones
abbrev pub IsMemory : List Action → List Post → List (Label × Labelled) → ℕ → ℕ → Option Parts → Type 0
IsMemory acts sent given k i None = (count : ℕ) × AreCounted k i count acts
IsMemory acts sent given k i (Some t) = IsUp acts sent given k i t

-- while the node is up, the records of this incarnation's actions are of committed ones
abbrev pub AreCommittedIn : List (Uid × Intent) → Option Parts → Type 0
AreCommittedIn records None = ⊤
AreCommittedIn records (Some t) = AreOfCommits records t.coord.tree

-- A node is good: its disk, its memory where it is up, and its records then.
pub record IsGoodPlace (acts : List Action) (sent : List Post) (given : List (Label × Labelled)) (k : ℕ) (n : Node) : Type 0 where
  pub disk : IsGoodDisk acts k n.disk
  pub memory : IsMemory acts sent given k n.disk.inc n.live
  pub records : AreCommittedIn (let d = n.disk in d.intents) n.live

-- where the node is up and the action is of this incarnation, it has ended there or is at its commit
abbrev pub IsSettledIn : Uid → Option Parts → Type 0
IsSettledIn u None = ⊤
IsSettledIn u (Some t) = is_own u t.coord.tree ≡ true → IsSettled u t.coord

-- while the node is up, each end of this incarnation that the message brings, and each commit that it tells, is so there
abbrev pub IsSaidIn : Message → Option Parts → Type 0
IsSaidIn m None = ⊤
IsSaidIn m (Some t) = IsSaidSo t.coord.tree m

-- What a message that was sent says holds of its sender: it names no later incarnation than the one on disk, nor ends of a
-- later one; each action that it says committed, or is at its commit, is of that node, and of no later incarnation, and
-- settled there; and ends that it brings, and commits that it tells, were decided so.
pub record IsSo (p : Post) (n : Node) : Type 0 where
  pub inc : SaysInc p.from n.disk.inc p.message
  pub seals : (u : Uid) → Seals p.message u → (u.inc ≤ n.disk.inc) × IsSettledIn u n.live
  pub past : (u : Uid) (e : End) → Contains (brought p.message) (u, e) → u.inc ≤ n.disk.inc
  pub said : IsSaidIn p.message n.live

-- What holds of nodes and messages, with all actions that were begun, the newest one first: the actions make a tree, each
-- node is good, each message that was ever sent fits the actions, is of its sender's actions, and is so at its sender.
pub record IsGoodWorld (acts : List Action) (sent : List Post) (given : List (Label × Labelled)) (found : ℕ → Option Node) : Type 0 where
  pub begun : AreBegun acts
  pub places : (k : ℕ) (n : Node) → found k ≡ Some n → IsGoodPlace acts sent given k n
  pub fits : (p : Post) → In p sent → FitsMessage acts p.message
  pub senders : (p : Post) (u : Uid) → In p sent → Seals p.message u → u.node ≡ p.from
  pub so : (p : Post) (n : Node) → In p sent → found p.from ≡ Some n → IsSo p n

-- the same, of what is seen, with these actions
abbrev pub IsGoodOf : List Action → Seen → Type 0
IsGoodOf acts M = IsGoodWorld acts M.sent M.labels M.nodes

-- there are such actions
abbrev pub IsGood : Seen → Type 0
IsGood M = (acts : List Action) × IsGoodOf acts M
