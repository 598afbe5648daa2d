-- Who waits at a coordinator, by which numbers calls ask, and whose ends are listed.
use Rattle.std.specs.Prelude.{◌≡◌, ◌≤◌, ◌<◌, ℕ, true, List, Some, None, length, Contains}
use Rattle.arj_protocol.specs.Words.{End, Uid, is_on, uids_of}
use Rattle.arj_protocol.specs.Call.{Steps}
use Rattle.arj_protocol.specs.Commit.{Machine, plan_of}
use Rattle.arj_protocol.specs.Coord.{Calling, Committing, Coord, Doing, doing_of}
use Rattle.arj_protocol.specs.Order.{at_number}
use Rattle.arj_protocol.specs.Step.{is_waiting_now}
use Rattle.arj_protocol.specs.Tree.{Branch, Tree, branch_of, ends_of}

-- Of two actions that wait none stands above the other.
abbrev pub WaitApart : Coord → Type 0
WaitApart c = (u w : Uid) (d e : Doing) (b : Branch) → doing_of u c ≡ Some d → doing_of w c ≡ Some e → is_waiting_now d.now ≡ true →
    is_waiting_now e.now ≡ true → branch_of u c.tree ≡ Some b → is_on (uids_of b.path) w ≡ true → u ≡ w

-- the request of a call or an include that waits has a number from 1 on
abbrev pub AskFromOne : Coord → Type 0
AskFromOne c = (u : Uid) (d : Doing) (s : Steps) → doing_of u c ≡ Some d → d.now ≡ Calling s → 1 ≤ s.req

-- who can wait, and by which number
pub record KnowsWaits (c : Coord) : Type 0 where
  pub apart : WaitApart c
  pub asks : AskFromOne c

-- a root that wasn't begun has nothing yet
abbrev pub HasNoRoots : Coord → Type 0
HasNoRoots c = (n : ℕ) → length (let t = c.tree in t.branches) < n → at_number n c.roots ≡ None

-- each end in the list is of an action that stands below another one
abbrev pub AreInner : Tree → List (Uid × End) → Type 0
AreInner t ends = (u : Uid) (e : End) (b : Branch) → Contains {X = Uid × End} ends (u, e) → branch_of u t ≡ Some b →
    2 ≤ length (uids_of b.path)

-- so are those that the tree lists, and those that a commit brings
pub record KnowsEnds (c : Coord) : Type 0 where
  pub lists : (root : Uid) → AreInner c.tree (ends_of root c.tree)
  pub plans : (u : Uid) (d : Doing) (m : Machine) → doing_of u c ≡ Some d → d.now ≡ Committing m →
      AreInner c.tree (let p = plan_of m in p.ends)
