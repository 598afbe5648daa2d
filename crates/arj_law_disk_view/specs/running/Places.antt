-- Who has something prepared or locked was begun, and so was who is asked about; where naming is; that coordinators are sound, and
-- that votes' states are each of its own object.
use Rattle.std.specs.Prelude.{⊤, ◌≡◌, ◌⊎◌, ◌<◌, ◌≤◌, ◌+◌, ℕ, true, ◌==◌, List, [], ◌∷◌, Option, Some, None, is_some, Contains}
use Rattle.std.specs.List.{AllByRecursion}
use Rattle.arj_protocol.specs.Words.{Uid, Message, ObjectState, Row, tops_of, uids_of}
use Rattle.arj_protocol.specs.Words.kind
use Rattle.arj_protocol.specs.Words.message
use Rattle.arj_protocol.specs.Copy.{Copy}
use Rattle.arj_protocol.specs.Effect.{Effect, Do, Send, Prepare, PutInc, Pair}
use Rattle.arj_protocol.specs.Named.{Named}
use Rattle.arj_protocol.specs.Naming.{Naming}
use Rattle.arj_protocol.specs.Node.{Parts}
use Rattle.arj_protocol.specs.Step.{Node}
use Rattle.arj_law_parts.specs.parts.Actions.{Action, act_of}
use Rattle.arj_law_parts.specs.moves.Seen as seen
use Rattle.arj_start.specs.Start.{Start}
use Rattle.arj_promise.specs.Runs.{Post, Seen}
use Rattle.arj_promise.specs.Starts.{next_inc}
use Rattle.arj_law_disk_view.specs.view.Sees.{was_begun}
use Rattle.arj_law_disk_view.specs.running.Sound.{AreSound, IsOwnVote}

-- the action was begun
abbrev pub IsBegun : List Action → Uid → Type 0
IsBegun acts u = (a : Action) × Contains acts a × (act_of a ≡ u)

-- so it is of each action that has something prepared
abbrev pub AreBegunIn : List Action → Pair → Type 0
AreBegunIn acts p = AllByRecursion (λ (e : Uid × List ObjectState). IsBegun acts e.0) p.pend

-- naming is at node 1
abbrev pub HasNaming : ℕ → Parts → Type 0
HasNaming k t = is_some t.naming ≡ (k == 1)

-- ---- locks

-- a lock at a server is by the path of an action that was begun
abbrev pub IsCallRow : List Action → Row → Type 0
IsCallRow acts r = (a : Action) × Contains acts a × (r.holder ≡ uids_of a.path) × (r.tops ≡ tops_of a.path)

-- a path of which each Uid counts: an action that was begun alone, or a constituent behind its serializing action
abbrev pub IsTopPath : List Action → List Uid → ℕ → Type 0
IsTopPath acts us tops = ((u : Uid) × IsBegun acts u × (us ≡ u ∷ []) × (tops ≡ 1))
    ⊎ ((a : Action) × Contains acts a × (a.kind ≡ kind.Constituent) × (us ≡ uids_of a.path) × (tops ≡ 2))

-- by such a path is a lock on an entry
abbrev pub IsEntryRow : List Action → Row → Type 0
IsEntryRow acts r = IsTopPath acts r.holder r.tops

-- so it is of each object
abbrev pub AreCallRows : List Action → List (ℕ × Copy) → Type 0
AreCallRows acts objects = AllByRecursion (λ (e : ℕ × Copy). (r : Row) → Contains (let c = e.1 in c.rows) r → IsCallRow acts r) objects

-- each object's copy stands once, by increasing numbers
abbrev pub AreKeyed : List (ℕ × Copy) → Type 0
AreKeyed [] = ⊤
AreKeyed (e ∷ es) = AllByRecursion (λ (f : ℕ × Copy). e.0 < f.0) es × AreKeyed es

-- so it is of each row on an entry
abbrev pub AreEntryRows : List Action → List (ℕ × Named) → Type 0
AreEntryRows acts objects = AllByRecursion (λ (e : ℕ × Named). (r : Row) → Contains (let o = e.1 in o.rows) r → IsEntryRow acts r) objects

-- so it is of naming, where it is there
abbrev pub AreNamesRows : List Action → Option Naming → Type 0
AreNamesRows acts None = ⊤
AreNamesRows acts (Some n) = AreEntryRows acts n.objects

-- ---- nodes

-- a node that is up: it has naming exactly if it is node 1, its locks are of actions that were begun, and its coordinator is sound
pub record IsPlacedUp (acts : List Action) (k : ℕ) (t : Parts) : Type 0 where
  pub naming : HasNaming k t
  pub calls : AreCallRows acts (let s = t.server in s.objects)
  pub keys : AreKeyed (let s = t.server in s.objects)
  pub entries : AreNamesRows acts t.naming
  pub coord : AreSound t.coord

-- in this incarnation or a later one, as a node that is up; and one that is down, with its next one
abbrev pub IsSince : ℕ → ℕ → Option Parts → Type 0
IsSince first i None = first ≤ i + 1
IsSince first i (Some t) = first ≤ i

-- Who has something prepared on the node's disk was begun, and so is its memory while it is up; and the node is in no incarnation before
-- that in which actions of the run first begin.
pub record IsPlaced (st : Start) (acts : List Action) (k : ℕ) (n : Node) : Type 0 where
  pub store : AreBegunIn acts (let d = n.disk in d.store)
  pub names : AreBegunIn acts (let d = n.disk in d.names)
  pub since : IsSince (next_inc st k) (let d = n.disk in d.inc) n.live
  pub live : (t : Parts) → n.live ≡ Some t → IsPlacedUp acts k t

-- whom a question is about
abbrev pub asked_about : Message → Option Uid
asked_about (message.Query m) = Some m.act
asked_about _ = None

-- a question is about an action that was begun, and goes to the action's node
abbrev pub IsAboutBegun : List Action → ℕ → Option Uid → Type 0
IsAboutBegun acts to None = ⊤
IsAboutBegun acts to (Some u) = (to ≡ u.node) × IsBegun acts u

-- whom a message asks about was begun
abbrev pub AsksBegun : List Action → ℕ → Message → Type 0
AsksBegun acts to m = IsAboutBegun acts to (asked_about m)

-- who prepares something was begun, and who is asked about; a vote's states are each of its own object; and the incarnation stays
abbrev pub MeansBegun : List Action → Effect → Type 0
MeansBegun acts (Do (Prepare r u states)) = IsBegun acts u
MeansBegun acts (Do (PutInc i)) = ⊥
MeansBegun acts (Send to m) = AsksBegun acts to m × IsOwnVote m
MeansBegun acts _ = ⊤

-- So it is at each node, and of each message that was sent; and each action that was begun has its line.
pub record ArePlaced (acts : List Action) (M : Seen) : Type 0 where
  pub nodes : (k : ℕ) (n : Node) → M.nodes k ≡ Some n → IsPlaced M.start acts k n
  pub asks : (p : Post) → seen.In p M.sent → AsksBegun acts p.to p.message
  pub votes : (p : Post) → seen.In p M.sent → IsOwnVote p.message
  pub lines : (a : Action) → Contains acts a → was_begun (act_of a) M.lines ≡ true
