-- The whole world, as the lock machine of one object has it: each node, up or down, every message that was sent, and what was not
-- begun yet.
use Rattle.std.specs.Prelude.{◌≡◌, ◌≢◌, ◌≤◌, ◌⊎◌, ℕ, ◌+◌, ◌==◌, true, List, Option, Some, None, Contains, is_some, length}
use Rattle.arj_protocol.specs.Words.{Head, Uid, asks, first_uid, is_on}
use Rattle.arj_protocol.specs.Words.ask
use Rattle.arj_protocol.specs.Words.confirmed
use Rattle.arj_protocol.specs.Words.ending
use Rattle.arj_protocol.specs.Ask.{Reply, asked_by, response, top_of}
use Rattle.arj_protocol.specs.Confirm.{Grants, Marks}
use Rattle.arj_protocol.specs.Effect.{Disk, Intent, is_prepared}
use Rattle.arj_protocol.specs.Naming.{Naming}
use Rattle.arj_protocol.specs.Node.{Parts}
use Rattle.arj_protocol.specs.Order.{at_uid}
use Rattle.arj_protocol.specs.Step.{Node}
use Rattle.arj_protocol.specs.Tree.{Branch, Tree, branch_of}
use Rattle.arj_law_lock.specs.machine.Actions.{Act, Root, is_action, is_top, root}
use Rattle.arj_law_lock.specs.machine.Machine.{Run, start}
use Rattle.arj_law_lock.specs.machine.State.{State}
use Rattle.arj_law_parts.specs.parts.Actions.{Action, act_of}
use Rattle.arj_law_parts.specs.moves.Seen.{In}
use Rattle.arj_promise.specs.Runs.{Post, Seen}
use Rattle.arj_law_lock_view.specs.facts.Parted.{names_object}
use Rattle.arj_law_lock_view.specs.view.Begins.{IsNewUnit, IsUntouched}
use Rattle.arj_law_lock_view.specs.view.Ends.{SeesNothing}
use Rattle.arj_law_lock_view.specs.view.Hearing.{SeesNamingIn}
use Rattle.arj_law_lock_view.specs.view.Inputs.{SeesWhole}
use Rattle.arj_law_lock_view.specs.view.Serving.{IsDown}
use Rattle.arj_law_lock_view.specs.view.Stops as stops
use Rattle.arj_law_lock_view.specs.view.Stops.{HasStopped}
use Rattle.arj_law_lock_view.specs.view.Telling.{HasEnded, Sees, View}
use Rattle.arj_law_lock_view.specs.running.Fixed.{Fixed, view_of}
use Rattle.arj_law_lock_view.specs.running.Posts.{IsPostSeen}

-- ---- what earlier incarnations left

-- the action has ended, and its unit is over
pub record IsPast (v : View) (u : Uid) (S : State) : Type 0 where
  pub ended : is_action (v.family.act u) ≡ true → stops.HasEnded (S.action (v.family.act u))
  pub over : (let a = S.action (Root (root (v.family.act u))) in a.stage) ≡ 3

-- each action that was begun at this node is one of the tree, or is past
abbrev pub ArePast : View → Tree → State → Type 0
ArePast v t S = (a : Action) → Contains v.family.begun a → (let u = act_of a in u.node) ≡ v.node →
    ((b : Branch) × (branch_of (act_of a) t ≡ Some b)) ⊎ IsPast v (act_of a) S

-- each action of the tree has its root at this node
abbrev pub AreHome : View → Tree → Type 0
AreHome v t = (u : Uid) (b : Branch) → branch_of u t ≡ Some b → (let r = first_uid (v.family.paths u) in r.node) ≡ v.node

-- a top with this record is committed, but for one
abbrev pub AreRecordsOf : View → Option Uid → List (Uid × Intent) → State → Type 0
AreRecordsOf v last intents S = (u : Uid) (i : Intent) → Contains {X = Uid × Intent} intents (u, i) →
    (last ≡ Some u) ⊎ HasEnded v S u ending.Commit

-- ---- a node

-- A node that is up: its server, its coordinator, and naming at node 1, in the incarnation of its disk; all others of its actions are
-- past, and each top with a record is committed.
pub record SeesUp (v : View) (S : State) (d : Disk) (t : Parts) : Type 0 where
  pub server : Sees v t.server S
  pub coord : SeesWhole v.family.act v.code v.x t.coord S
  pub naming : SeesNamingIn v S t.naming
  pub inc : (n : Naming) → t.naming ≡ Some n → n.inc ≡ d.inc
  pub place : is_some t.naming ≡ (v.node == 1)
  pub home : AreHome v t.coord.tree
  pub past : ArePast v t.coord.tree S
  pub records : AreRecordsOf v None d.intents S

-- A node that is down: of the actions of its last coordinator all have ended, but for one top, of which the decision is on the disk and
-- that has no line yet; all others are past, and each other top with a record is committed.
pub record SeesDown (v : View) (S : State) (d : Disk) : Type 0 where
  pub server : IsDown v.node d.inc S
  pub naming : v.node ≡ 1 → SeesNothing d.inc S
  pub tree : Tree
  pub last : Option Uid
  pub stopped : HasStopped v.family.act tree last S
  pub decided : (u : Uid) → last ≡ Some u → is_some (at_uid u d.intents) ≡ true
  pub home : AreHome v tree
  pub past : ArePast v tree S
  pub records : AreRecordsOf v last d.intents S

-- a node, up or down
abbrev pub SeesMemory : View → State → Disk → Option Parts → Type 0
SeesMemory v S d None = SeesDown v S d
SeesMemory v S d (Some t) = SeesUp v S d t

-- ---- who is confirmed

-- naming has confirmed the action in this incarnation, or has entries of it prepared
abbrev pub IsConfirmedAt : Uid → Disk → Option Parts → Type 0
IsConfirmedAt u d live = (is_prepared u (let k = d in k.names) ≡ true)
    ⊎ ((t : Parts) × (n : Naming) × (live ≡ Some t) × (t.naming ≡ Some n) × (is_on n.confirmed u ≡ true))

-- A Confirm of it was sent, and if it names the object the machine's naming confirmed the action once.
pub record HasConfirm (f : Fixed) (x : ℕ) (S : State) (sent : List Post) (u : Uid) : Type 0 where
  pub post : Post
  pub head : Head
  pub grants : Grants
  pub excluded : Marks
  pub included : Marks
  pub there : In post sent
  pub is : asks (let p = post in p.message) ≡ Some (head, ask.Confirm grants excluded included)
  pub top : top_of (let h = head in h.path) ≡ u
  pub confirmed : names_object x grants ≡ true → S.confirmed (f.act u) ≡ true

-- The answer Yes was sent by naming's node to a Confirm of the top, which names the object.
pub record WasAnsweredYes (x : ℕ) (sent : List Post) (u : Uid) : Type 0 where
  pub post : Post
  pub head : Head
  pub grants : Grants
  pub excluded : Marks
  pub included : Marks
  pub there : In post sent
  pub is : asks (let p = post in p.message) ≡ Some (head, ask.Confirm grants excluded included)
  pub to : (let p = post in p.to) ≡ 1
  pub top : top_of (let h = head in h.path) ≡ u
  pub names : names_object x grants ≡ true
  pub yes : In (record {
    from = (let p = post in p.to);
    to = (let p = post in p.from);
    message = response (asked_by head) (Reply.Confirmed confirmed.Yes);
  }) sent

-- the action has ended in the machine, or its unit is over
abbrev pub IsOverIn : Act → State → Type 0
IsOverIn a S = (3 ≤ (let b = S.action a in b.stage)) ⊎ ((let b = S.action (Root (root a)) in b.stage) ≡ 3)

-- Naming did confirm the top: it was answered Yes, or has entries prepared on this disk, or is over.
abbrev pub WasConfirmed : Fixed → ℕ → State → List Post → Disk → Uid → Type 0
WasConfirmed f x S sent d u = WasAnsweredYes x sent u ⊎ ((is_prepared u (let k = d in k.names) ≡ true) ⊎ IsOverIn (f.act u) S)

-- so it is of each top that the machine's naming confirmed once
abbrev pub WereConfirmed : Fixed → ℕ → State → List Post → Disk → Type 0
WereConfirmed f x S sent d = (u : Uid) → is_top (f.act u) ≡ true → S.confirmed (f.act u) ≡ true → WasConfirmed f x S sent d u

-- Of each that a node has confirmed a Confirm was sent; and whom the machine's naming confirmed naming did confirm, at node 1.
abbrev pub HaveConfirms : Fixed → ℕ → ℕ → State → List Post → Disk → Option Parts → Type 0
HaveConfirms f x k S sent d live = ((u : Uid) → IsConfirmedAt u d live → HasConfirm f x S sent u) × (k ≡ 1 → WereConfirmed f x S sent d)

-- ---- what isn't begun yet

-- the action wasn't begun
abbrev pub IsUnbegun : List Action → Uid → Type 0
IsUnbegun begun u = (a : Action) → Contains begun a → act_of a ≢ u

-- The machine did nothing for actions that weren't begun, nor for units of which no action was.
pub record IsFresh (f : Fixed) (begun : List Action) (S : State) : Type 0 where
  pub actions : (u : Uid) → IsUnbegun begun u → IsUntouched (S.action (f.act u))
  pub units : (n : ℕ) → ((a : Action) → Contains begun a → root (f.act (act_of a)) ≢ n) → IsNewUnit n S

-- ---- the world

-- The object in the whole world: a run of the machine from its first value, whose state is seen at each node, and where there is none as at
-- one that never starts, in whom naming confirmed, in each message that was sent, and of what wasn't begun; and no line of the machine
-- stands behind the journal's.
pub record SeesLocks (f : Fixed) (x : ℕ) (begun : List Action) (S : State) (M : Seen) : Type 0 where
  pub run : Run (start f.first) S
  pub nodes : (k : ℕ) (n : Node) → M.nodes k ≡ Some n → SeesMemory (view_of f x begun k) S n.disk n.live
  pub absent : (k : ℕ) → M.nodes k ≡ None → (d : Disk) × SeesDown (view_of f x begun k) S d
  pub confirms : (k : ℕ) (n : Node) → M.nodes k ≡ Some n → HaveConfirms f x k S M.sent n.disk n.live
  pub posts : (p : Post) → In p M.sent → IsPostSeen f x begun M.sent S p
  pub fresh : IsFresh f begun S
  pub now : S.now ≤ length M.lines + 1
