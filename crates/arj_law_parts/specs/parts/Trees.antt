-- The tree of a coordinator: whose end is listed at its root, and in which order.
use Rattle.std.specs.Prelude.{◌≡◌, ◌≢◌, ◌≤◌, List, [], ◌∷◌, ◌++◌, length, true, Some, Contains, is_some, ⊤}
use Rattle.arj_base.specs.Path.{before_last}
use Rattle.arj_protocol.specs.Words.{Uid, End, Kind, Path, is_on, uids_of}
use Rattle.arj_protocol.specs.Words.ending
use Rattle.arj_protocol.specs.Ask.{actor}
use Rattle.arj_protocol.specs.Tree.{Tree, Branch, branch_of, is_open, ends_of, root_of, is_own, next_uid}
use Rattle.arj_law_parts.specs.parts.Actions.{Action}
use Rattle.arj_law_parts.specs.parts.Copies.{Paths}
use Rattle.arj_law_parts.specs.parts.Servers.{has_end_of}

-- the ends of all that the tree has below an action
abbrev pub HasAllIn : Tree → Uid → List (Uid × End) → Type 0
HasAllIn t u ends = (w : Uid) (b : Branch) → branch_of w t ≡ Some b → is_on (uids_of b.path) u ≡ true → w ≢ u → has_end_of w ends ≡ true

-- each commit stands behind the ends of all that is below it
abbrev pub AreWhole : Tree → List (Uid × End) → List (Uid × End) → Type 0
AreWhole t before [] = ⊤
AreWhole t before (e ∷ es) = (e.1 ≡ ending.Commit → HasAllIn t e.0 before) × AreWhole t (before ++ e ∷ []) es

-- What holds of a tree: branches are found by their Uids, with their paths and their parents; an end is listed at the root
-- exactly where its branch has ended; and each commit is listed behind all that is below it.
pub record HasLists (paths : Paths) (t : Tree) : Type 0 where
  pub places : (u : Uid) (b : Branch) → branch_of u t ≡ Some b → actor b.path ≡ u
  pub paths_are : (u : Uid) (b : Branch) → branch_of u t ≡ Some b → uids_of b.path ≡ paths u
  pub every : (b : Branch) → Contains t.branches b → uids_of b.path ≡ paths (actor b.path)
  pub parents : (u h : Uid) (b : Branch) → branch_of u t ≡ Some b → before_last (paths u) ≡ Some h → (p : Branch) × (branch_of h t ≡ Some p)
  pub listed : (u : Uid) (b : Branch) → branch_of u t ≡ Some b → 2 ≤ length (uids_of b.path) → is_some b.ended ≡ true →
      has_end_of u (ends_of (root_of b.path) t) ≡ true
  pub over : (root u : Uid) → has_end_of u (ends_of root t) ≡ true → (b : Branch) × (branch_of u t ≡ Some b) × (is_some b.ended ≡ true)
  pub whole : (root : Uid) → AreWhole t [] (ends_of root t)

-- what was begun in an action that ended has ended
abbrev pub IsClosed : Paths → Tree → Type 0
IsClosed paths t = (u h : Uid) (b p : Branch) → branch_of u t ≡ Some b → before_last (paths u) ≡ Some h → branch_of h t ≡ Some p →
    is_some p.ended ≡ true → is_some b.ended ≡ true

-- A tree whose roots have the lists of their ends, and in which whatever was begun in an ended action has ended.
pub record IsGoodTree (paths : Paths) (t : Tree) : Type 0 where
  pub lists : HasLists paths t
  pub closed : IsClosed paths t

-- The next action of a tree stands where it may: by its Uid, with its path, and in an action that is open. A node refuses
-- what begins in an action that ended; the rest `coordinators_begin_new_actions` shows.
pub record MayStand (paths : Paths) (k : Kind) (t : Tree) (p : Path) : Type 0 where
  pub uid : actor p ≡ next_uid t
  pub path : uids_of p ≡ paths (next_uid t)
  pub parent : (h : Uid) → before_last (uids_of p) ≡ Some h → is_open h t ≡ true

-- All actions below one of this coordinator's are its own. Nested actions and constituents begin where their parents do.
abbrev pub AreAtHome : List Action → Tree → Type 0
AreAtHome acts t = (a : Action) (u : Uid) → Contains acts a → is_on (uids_of a.path) u ≡ true → is_own u t ≡ true →
    (b : Branch) × (branch_of (actor a.path) t ≡ Some b) × (b.path ≡ a.path)
