-- Who takes part in a top's commit: who is asked to vote is one of its servers, and naming is asked to confirm one thing.
use Rattle.std.specs.Prelude.{⊤, ◌≡◌, ◌⊎◌, ◌==◌, ℕ, Bool, true, false, List, Some, is_some}
use Rattle.std.specs.List.{list_any}
use Rattle.arj_protocol.specs.Words.{Ask, Head, Header, Uid, asks}
use Rattle.arj_protocol.specs.Words.ask
use Rattle.arj_protocol.specs.Words.ending
use Rattle.arj_protocol.specs.Ask.{actor}
use Rattle.arj_protocol.specs.Commit.{Confirming, Machine, Voting, ask_of, confirm_ask, left_of, plan_of, servers_of}
use Rattle.arj_protocol.specs.Confirm.{Grants}
use Rattle.arj_protocol.specs.Coord.{Committing, Coord, Doing, Now, doing_of}
use Rattle.arj_protocol.specs.Node.{Parts}
use Rattle.arj_protocol.specs.Order.{has}
use Rattle.arj_protocol.specs.Step.{Node}
use Rattle.arj_protocol.specs.Tree.{Branch, branch_of, is_own}
use Rattle.arj_law_parts.specs.parts.Actions.{Action}
use Rattle.arj_law_parts.specs.moves.Seen.{In}
use Rattle.arj_promise.specs.Runs.{Post, Seen}
use Rattle.arj_law_lock_view.specs.facts.Acts.{KeepsOf}
use Rattle.arj_law_lock_view.specs.facts.Uppers.{IsTopOf}

-- ---- what a coordinator knows

-- a Vote, or a Confirm
abbrev pub asks_part : Ask → Bool
asks_part (ask.Vote i ties ends) = true
asks_part (ask.Confirm grants excluded included) = true
asks_part _ = false

-- the commit waits for naming to confirm this
abbrev pub IsConfirmIn : Machine → ℕ → Ask → Type 0
IsConfirmIn (Confirming p) to a = (to ≡ 1) × (a ≡ confirm_ask p)
IsConfirmIn m to a = ⊥

-- A commit under way asks this of the node: a vote of each of its servers, and its confirmation of naming, once it has come to that.
abbrev pub IsSought : Machine → ℕ → Ask → Type 0
IsSought m to (ask.Vote i ties ends) = has (servers_of (plan_of m)) to ≡ true
IsSought m to a = IsConfirmIn m to a

-- the action is at a commit that asks this
pub record IsSeeking (c : Coord) (u : Uid) (to : ℕ) (a : Ask) : Type 0 where
  pub doing : Doing
  pub machine : Machine
  pub works : doing_of u c ≡ Some doing
  pub now : doing.now ≡ Committing machine
  pub sought : IsSought machine to a

-- the action has ended here, and if it was committed the node took part
pub record HasPart (c : Coord) (u : Uid) (to : ℕ) : Type 0 where
  pub branch : Branch
  pub doing : Doing
  pub found : branch_of u c.tree ≡ Some branch
  pub works : doing_of u c ≡ Some doing
  pub ended : is_some branch.ended ≡ true
  pub took : branch.ended ≡ Some ending.Commit → has doing.took to ≡ true

-- an action asks the node, or the node took part in its commit
abbrev pub IsPart : Coord → Uid → ℕ → Ask → Type 0
IsPart c u to a = IsSeeking c u to a ⊎ HasPart c u to

-- so it is of each Vote and Confirm that it sent
abbrev pub KnowsParts : List Post → Coord → Type 0
KnowsParts sent c = (p : Post) (h : Head) (a : Ask) → In p sent → asks p.message ≡ Some (h, a) → asks_part a ≡ true →
    is_own (actor h.path) c.tree ≡ true → IsPart c (actor h.path) p.to a

-- A Vote or a Confirm that is sent is what a commit under way asks of a node for which it waits.
pub record IsAskedNow (c : Coord) (to : ℕ) (h : Head) (a : Ask) : Type 0 where
  pub doing : Doing
  pub machine : Machine
  pub works : doing_of (actor h.path) c ≡ Some doing
  pub now : doing.now ≡ Committing machine
  pub path : h.path ≡ (let p = plan_of machine in p.path)
  pub same : a ≡ ask_of machine to
  pub left : has (left_of machine) to ≡ true

-- what waits for votes waits for servers of its plan
abbrev pub IsLeft : Now → Type 0
IsLeft (Committing (Voting p left)) = (n : ℕ) → has left n ≡ true → has (servers_of p) n ≡ true
IsLeft _ = ⊤

-- so it is of each commit under way
abbrev pub AreLeft : Coord → Type 0
AreLeft c = (u : Uid) (d : Doing) → doing_of u c ≡ Some d → IsLeft d.now

-- ---- the world

-- it asks naming to confirm
abbrev pub is_confirm : Ask → Bool
is_confirm (ask.Confirm grants excluded included) = true
is_confirm _ = false

-- all Confirms of one action are one
abbrev pub AreOneConfirm : List Post → Type 0
AreOneConfirm sent = (p q : Post) (h j : Head) (a b : Ask) → In p sent → In q sent → asks p.message ≡ Some (h, a) →
    asks q.message ≡ Some (j, b) → is_confirm a ≡ true → is_confirm b ≡ true → actor h.path ≡ actor j.path → a ≡ b

-- Each Vote and Confirm that was sent is by a top of its sender, and all Confirms of one top are one; each coordinator knows who is part of
-- its commits, and waits for servers of its plans.
pub record KnowsParted (begun : List Action) (M : Seen) : Type 0 where
  pub senders : (p : Post) (h : Head) (a : Ask) → In p M.sent → asks p.message ≡ Some (h, a) → asks_part a ≡ true →
      (let u = actor h.path in u.node) ≡ p.from
  pub tops : (p : Post) (h : Head) (a : Ask) → In p M.sent → asks p.message ≡ Some (h, a) → asks_part a ≡ true →
      IsTopOf begun (actor h.path)
  pub one : AreOneConfirm M.sent
  pub coords : (j : ℕ) (n : Node) (t : Parts) → M.nodes j ≡ Some n → n.live ≡ Some t → KnowsParts M.sent t.coord × AreLeft t.coord

-- each handler keeps it, of the actions that were begun
abbrev pub HandlersKeepParted : Type 0
HandlersKeepParted = (hd : Header) → KeepsOf hd (λ begun M. ⊤) KnowsParted

-- ---- what Confirms name

-- the grants have one of this object
abbrev pub names_object : ℕ → Grants → Bool
names_object x grants = list_any (λ (g : ℕ × ℕ). g.0 == x) grants
