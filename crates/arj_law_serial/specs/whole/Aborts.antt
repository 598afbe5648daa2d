-- Aborts that are told of tops: where one was asked for a part in a top's commit, none is told of that top, unless it was aborted or its
-- root has ended.
use Rattle.std.specs.Prelude.{◌≡◌, ◌≢◌, ◌⊎◌, ℕ, true, List, Some, None, Option, Contains}
use Rattle.arj_protocol.specs.Words.{Ask, End, Head, Uid, asks, is_on}
use Rattle.arj_protocol.specs.Words.ending
use Rattle.arj_protocol.specs.Ask.{actor}
use Rattle.arj_protocol.specs.Effect.{Intent}
use Rattle.arj_protocol.specs.Node.{Parts}
use Rattle.arj_protocol.specs.Order.{at_uid}
use Rattle.arj_protocol.specs.Step.{Node}
use Rattle.arj_protocol.specs.Tree.{Tree, is_own, root_of}
use Rattle.arj_law_parts.specs.parts.Actions.{Action, act_of}
use Rattle.arj_law_parts.specs.parts.Coords.{IsOver}
use Rattle.arj_law_parts.specs.parts.Messages.{IsDecided}
use Rattle.arj_law_parts.specs.moves.Seen.{In}
use Rattle.arj_promise.specs.Runs.{Post, Seen}
use Rattle.arj_law_runs.specs.journal.Book.{Book, book, is_decided}
use Rattle.arj_law_lock_view.specs.facts.Parted.{asks_part, is_confirm}
use Rattle.arj_law_lock_view.specs.running.Beside.{told_in}

-- ---- messages

-- an abort of the action was told to this node
abbrev pub IsAbortTold : List Post → Uid → ℕ → Type 0
IsAbortTold sent u to = (p : Post) × In p sent × (p.to ≡ to) × Contains {X = Uid × End} (told_in p.message) (u, ending.Abort)

-- a Vote or a Confirm of the action was sent to this node
pub record IsPartAsked (sent : List Post) (u : Uid) (to : ℕ) : Type 0 where
  pub post : Post
  pub head : Head
  pub ask : Ask
  pub there : In post sent
  pub to_it : (let p = post in p.to) ≡ to
  pub is : asks (let p = post in p.message) ≡ Some (head, ask)
  pub part : asks_part ask ≡ true
  pub by : actor (let h = head in h.path) ≡ u

-- ---- coordinators

-- the action was aborted here, or its root has ended
abbrev pub IsSpent : List Action → Uid → Tree → Type 0
IsSpent begun u t = IsDecided u ending.Abort t ⊎ ((a : Action) × Contains begun a × (act_of a ≡ u) × IsOver (root_of a.path) t)

-- An action of this coordinator of which an abort was told has ended; and where the node was asked for a part in it, the action was
-- aborted, or its root has ended.
abbrev pub KnowsAborts : List Action → List Post → Tree → Type 0
KnowsAborts begun sent t = (u : Uid) (to : ℕ) → IsAbortTold sent u to → is_own u t ≡ true →
    IsOver u t × (IsPartAsked sent u to → IsSpent begun u t)

-- While the node is down: where it has the record of a constituent that isn't decided by the journal, an action of that one's root of which
-- an abort was told to whom was asked for a part was aborted by the journal.
abbrev pub KeepsAborts : List Action → List Post → Book → ℕ → List (Uid × Intent) → Type 0
KeepsAborts begun sent B k intents = (w : Uid) (i : Intent) → at_uid w intents ≡ Some i → i.root ≢ w → (is_decided B w ≡ true → ⊥)
    → (u : Uid) (to : ℕ) → u.node ≡ k → IsAbortTold sent u to → IsPartAsked sent u to → (a : Action) → Contains begun a → act_of a ≡ u →
    root_of a.path ≡ i.root → is_on B.aborted u ≡ true

-- ---- the world

-- the action was begun, at a node that is there
abbrev pub IsBegunAt : List Action → (ℕ → Option Node) → Uid → Type 0
IsBegunAt begun found u = ((a : Action) × Contains begun a × (act_of a ≡ u)) × ((n : Node) × (found u.node ≡ Some n))

-- So it is at each node; aborts are told of actions that were begun, and Confirms go to node 1.
pub record AbortsAreKnown (begun : List Action) (M : Seen) : Type 0 where
  pub told : (u : Uid) (to : ℕ) → IsAbortTold M.sent u to → IsBegunAt begun M.nodes u
  pub confirms : (p : Post) (h : Head) (a : Ask) → In p M.sent → asks p.message ≡ Some (h, a) → is_confirm a ≡ true → p.to ≡ 1
  pub up : (j : ℕ) (n : Node) (t : Parts) → M.nodes j ≡ Some n → n.live ≡ Some t → KnowsAborts begun M.sent t.coord.tree
  pub down : (j : ℕ) (n : Node) → M.nodes j ≡ Some n → n.live ≡ None →
      KeepsAborts begun M.sent (book M.lines) j (let d = n.disk in d.intents)
