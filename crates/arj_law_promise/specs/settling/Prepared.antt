-- Whoever has something prepared was asked for it by a request of its own, and no nested or serializing action is.
use Rattle.std.specs.Prelude.{⊤, ◌≡◌, ℕ, true, List, Option, Some, None, is_some}
use Rattle.std.specs.List.{AllByRecursion}
use Rattle.arj_protocol.specs.Words.{Ask, Head, ObjectState, Uid, asks}
use Rattle.arj_protocol.specs.Words.ask
use Rattle.arj_protocol.specs.Words.role
use Rattle.arj_protocol.specs.Ask.{actor, top_of}
use Rattle.arj_protocol.specs.Coord.{Coord}
use Rattle.arj_protocol.specs.Effect.{Do, Effect, Pair, Prepare, Send}
use Rattle.arj_protocol.specs.Node.{Parts}
use Rattle.arj_protocol.specs.Step.{Node}
use Rattle.arj_protocol.specs.Tree.{is_own}
use Rattle.arj_law_parts.specs.parts.Actions.{Action}
use Rattle.arj_law_parts.specs.parts.Claims.{IsSettled}
use Rattle.arj_law_parts.specs.moves.Seen.{In}
use Rattle.arj_promise.specs.Runs.{Post, Seen}
use Rattle.arj_law_disk_view.specs.view.Pairs.{AreSorted}
use Rattle.arj_law_disk_view.specs.running.Places.{HasNaming}
use Rattle.arj_law_lock_view.specs.facts.Uppers.{IsTopOf}

-- ---- requests

-- for whom this request has something prepared: its actor at a store, its path's top at naming
abbrev pub preparer : Head → Ask → Option Uid
preparer h (ask.Prepare states) = Some (actor h.path)
preparer h (ask.Confirm grants excluded included) = Some (top_of h.path)
preparer h _ = None

-- so it is of what a message asks
abbrev pub preparer_in : Option (Head × Ask) → Option Uid
preparer_in None = None
preparer_in (Some q) = preparer q.0 q.1

-- The action was begun at this node, is neither nested nor serializing, and asks itself.
pub record IsForItself (acts : List Action) (k : ℕ) (h : Head) (u : Uid) : Type 0 where
  pub top : IsTopOf acts u
  pub home : u.node ≡ k
  pub same : actor h.path ≡ u

-- so is whoever has something prepared by a request that node k sends
abbrev pub AsksForItself : List Action → ℕ → Option (Head × Ask) → Type 0
AsksForItself acts k None = ⊤
AsksForItself acts k (Some q) = (u : Uid) → preparer q.0 q.1 ≡ Some u → IsForItself acts k q.0 u

-- ---- disks

-- a request for the action was sent
abbrev pub WasAsked : List Post → Uid → Type 0
WasAsked sent u = (p : Post) × In p sent × (preparer_in (asks p.message) ≡ Some u)

-- what is prepared is sorted, and of each such action this holds
pub record HasPrepared (Q : Uid → Type 0) (d : Pair) : Type 0 where
  pub sorted : AreSorted d.pend
  pub each : AllByRecursion (λ (e : Uid × List ObjectState). Q e.0) d.pend

-- a node's store and, at node 1, naming's entries have prepared what was asked; and naming is at node 1
pub record IsAskedNode (sent : List Post) (k : ℕ) (n : Node) : Type 0 where
  pub store : HasPrepared (WasAsked sent) (let d = n.disk in d.store)
  pub names : HasPrepared (λ u. WasAsked sent u × (k ≡ 1)) (let d = n.disk in d.names)
  pub live : (t : Parts) → n.live ≡ Some t → HasNaming k t

-- what an effect at node k prepares was asked, and what it asks is for the action itself
abbrev pub MeansAsked : List Action → List Post → ℕ → Effect → Type 0
MeansAsked acts sent k (Do (Prepare role.Store u states)) = WasAsked sent u
MeansAsked acts sent k (Do (Prepare role.Names u states)) = WasAsked sent u × (k ≡ 1)
MeansAsked acts sent k (Send to m) = AsksForItself acts k (asks m)
MeansAsked acts sent k _ = ⊤

-- So it is at each node, and of each message that was sent.
pub record PreparedWereAsked (acts : List Action) (M : Seen) : Type 0 where
  pub nodes : (k : ℕ) (n : Node) → M.nodes k ≡ Some n → IsAskedNode M.sent k n
  pub sent : (p : Post) → In p M.sent → AsksForItself acts p.from (asks p.message)

-- ---- coordinators

-- Of this node's coordinator: each action that had something prepared by a request has ended there, or is at its commit.
abbrev pub AskersAreSettled : List Post → ℕ → Coord → Type 0
AskersAreSettled sent k c = (p : Post) (h : Head) (a : Ask) → In p sent → p.from ≡ k → asks p.message ≡ Some (h, a) →
    is_some (preparer h a) ≡ true → is_own (actor h.path) c.tree ≡ true → IsSettled (actor h.path) c
