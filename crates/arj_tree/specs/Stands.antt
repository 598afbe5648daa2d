-- What a tree's fields keep, and calls by Uid.
use Rattle.std.specs.Prelude.{◌≡◌, ℕ, ◌+◌, suc, ◌<◌, true, List, [], ◌∷◌, length, slice_set, Option, Some, None}
use Rattle.arj_protocol.specs.Ask.{actor}
use Rattle.arj_protocol.specs.Tree.{Tree, Branch, branch_of, is_own, uses_object}
use Rattle.arj_protocol.specs.Words.{Uid, Path, uids_of}
use Rattle.arj_tree.specs.Open.{Opens, opens}
use Rattle.arj_tree.specs.Tally.{Families, AreWithin}
use Rattle.arj_start.specs.Kinds.{is_serial}

-- Each path ends with its action, whose number is its place; a serializing action stands below no other.
abbrev pub AreNamed : ℕ → ℕ → ℕ → List Branch → Type 0
AreNamed node inc n [] = Unit {0}
AreNamed node inc n (b ∷ bs) =
    (actor b.path ≡ record { node = node; inc = inc; num = n }) × ((is_serial b.kind ≡ true →
    length (uids_of b.path) ≡ 1) × AreNamed node inc (n + 1) bs)

-- the open actions are kept beside all of them, and the counts are counts of these
pub record Stands (node inc : ℕ) (branches : List Branch) (open_ones : Opens) (families : Families) : Type 0 where
  pub kept : open_ones ≡ opens 1 branches
  pub named : AreNamed node inc 1 branches
  pub within : AreWithin (length branches) families

-- the action stands at this place
pub record IsPlace (u : Uid) (place : ℕ) (t : Tree) : Type 0 where
  pub own : is_own u t ≡ true
  pub number : u.num ≡ suc place
  pub within : place < length t.branches

-- another action at a place
abbrev pub with_branch : ℕ → Branch → Tree → Tree
with_branch place b t = record t { branches = slice_set t.branches place b }

-- the parent, where one is given and known
abbrev pub parent_in : Option Uid → Tree → Option Branch
parent_in None t = None
parent_in (Some u) t = branch_of u t

-- the path of an action
abbrev pub path_of_branch : Option Branch → Option Path
path_of_branch None = None
path_of_branch (Some b) = Some b.path

-- the object is used by the root of an action
abbrev pub used_by : ℕ → Tree → Option Branch → Tree
used_by x t None = t
used_by x t (Some b) = uses_object b.path x t

-- so it is of the action's root
abbrev pub object_used : Uid → ℕ → Tree → Tree
object_used u x t = used_by x t (branch_of u t)
