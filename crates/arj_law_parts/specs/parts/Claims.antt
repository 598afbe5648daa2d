-- What a coordinator says of its actions, for ever.
use Rattle.std.specs.Prelude.{◌≡◌, ◌≤◌, ℕ, ◌⊎◌, Bool, List, true, Some, is_some, length, Contains, ⊤}
use Rattle.std.specs.List.{AllByRecursion}
use Rattle.arj_protocol.specs.Words.{Uid, Message, asks}
use Rattle.arj_protocol.specs.Words.message
use Rattle.arj_protocol.specs.Coord.{Coord}
use Rattle.arj_protocol.specs.Effect.{Effect, Say, Send, Do, Work, PutInc, PutIntent, Intent}
use Rattle.arj_protocol.specs.Tree.{Branch, branch_of, is_own}
use Rattle.arj_law_parts.specs.parts.Coords.{IsOver, IsCommitting}
use Rattle.arj_law_parts.specs.parts.Messages.{Seals}

-- the action has ended here, or is at its commit
abbrev pub IsSettled : Uid → Coord → Type 0
IsSettled u c = IsOver u c.tree ⊎ IsCommitting u c

-- it is of this coordinator's node, settled where it is of its incarnation, and of no later one
abbrev pub IsClaimed : Uid → Coord → Type 0
IsClaimed u c = (u.node ≡ c.tree.node) × (is_own u c.tree ≡ true → IsSettled u c) × (u.inc ≤ c.tree.inc)

-- the action is of this node, and not of a later incarnation
abbrev pub IsOfNode : ℕ → ℕ → Uid → Type 0
IsOfNode n i u = (u.node ≡ n) × (u.inc ≤ i)

-- records are of actions of this node in this incarnation or an earlier one
abbrev pub AreOfNode : ℕ → ℕ → List (Uid × Intent) → Type 0
AreOfNode n i intents = AllByRecursion (λ (e : Uid × Intent). IsOfNode n i e.0) intents

-- a request, or ends that are told: what a coordinator sends
abbrev pub is_of_coord : Message → Bool
is_of_coord (message.Told m) = true
is_of_coord m = is_some (asks m)

-- What this coordinator may send: requests and ends; of each action that the message says committed, or that it says is
-- voting, it is true here.
pub record IsTrue (c : Coord) (m : Message) : Type 0 where
  pub claims : (u : Uid) → Seals m u → IsClaimed u c
  pub plain : is_of_coord m ≡ true

-- a record that is written is of an action of this node
abbrev pub IsOwnRecord : ℕ → ℕ → Work → Type 0
IsOwnRecord n i (PutIntent u e) = IsOfNode n i u
IsOwnRecord n i _ = ⊤

-- and the work isn't that of a new incarnation
abbrev pub IsHomeWork : ℕ → ℕ → Work → Type 0
IsHomeWork n i (PutIntent u e) = IsOfNode n i u
IsHomeWork n i (PutInc j) = ⊥
IsHomeWork n i _ = ⊤

-- what the message says is true of this coordinator, and the work is at home
abbrev pub IsTrueEffect : Coord → Effect → Type 0
IsTrueEffect c (Send to m) = IsTrue c m
IsTrueEffect c (Say b) = ⊤
IsTrueEffect c (Do w) = IsHomeWork c.tree.node c.tree.inc w

-- each message that is sent is true, and each record that is written is of an action of this node
abbrev pub AreTrue : Coord → List Effect → Type 0
AreTrue c outs = AllByRecursion (IsTrueEffect c) outs

-- each action of the tree has its work entry, and what is told again is of actions that are settled
pub record IsFaithful (c : Coord) : Type 0 where
  pub works : length c.doings ≡ length c.tree.branches
  pub told : (u : Uid) (i : Intent) → Contains c.telling (u, i) → IsClaimed u c

-- One coordinator after another, in an incarnation: what is settled stays so, in the same tree of actions, under the same
-- labels, and what is told anew is settled.
pub record GoesOn (c e : Coord) : Type 0 where
  pub settled : (u : Uid) → IsSettled u c → IsSettled u e
  pub own : (u : Uid) → is_own u e.tree ≡ is_own u c.tree
  pub works : length e.doings ≡ length c.doings
  pub branches : length e.tree.branches ≡ length c.tree.branches
  pub labels : e.labels ≡ c.labels
  pub kinds : (u : Uid) (b : Branch) → branch_of u c.tree ≡ Some b → (d : Branch) × (branch_of u e.tree ≡ Some d) × (d.kind ≡ b.kind)
  pub told : (u : Uid) (i : Intent) → Contains e.telling (u, i) → ((j : Intent) × Contains c.telling (u, j)) ⊎ IsClaimed u e
