-- How much a coordinator's tree has of each root.
use Rattle.std.specs.Prelude.{◌≡◌, ◌≤◌, ◌<◌, ◌+◌, ◌==◌, ◌&&◌, ℕ, Bool, not, List, [], ◌∷◌, length, if◌then◌else◌, is_some, unwrap_or}
use Rattle.std.specs.Prelude.{Contains, ⊤}
use Rattle.std.specs.List.{AllByRecursion}
use Rattle.arj_protocol.specs.Order.{at_number}
use Rattle.arj_protocol.specs.Tree.{Branch, Family, Tree, no_family, root_of}
use Rattle.arj_protocol.specs.Words.{Uid, End}
use Rattle.arj_start.specs.Limits.{most_actions, most_objects}

-- the action is of the root of this number, and open
abbrev pub is_open_in : ℕ → Branch → Bool
is_open_in k b = ((root_of b.path).num == k) && not (is_some b.ended)

-- how many of these are
abbrev pub count_open : ℕ → List Branch → ℕ
count_open k [] = 0
count_open k (b ∷ bs) = (if is_open_in k b then 1 else 0) + count_open k bs

-- how many actions of the root of this number are open
abbrev pub open_in : ℕ → Tree → ℕ
open_in k t = count_open k t.branches

-- what the root of this number has
abbrev pub family_at : ℕ → Tree → Family
family_at k t = unwrap_or (at_number k t.families) no_family

-- the ends that are listed at the root of this number
abbrev pub ends_at : ℕ → Tree → List (Uid × End)
ends_at k t = let f = family_at k t in f.ends

-- how many actions the root of this number has
abbrev pub actions_at : ℕ → Tree → ℕ
actions_at k t = let f = family_at k t in f.actions

-- the objects that the root of this number uses
abbrev pub objects_at : ℕ → Tree → List ℕ
objects_at k t = let f = family_at k t in f.objects

-- each number is below all that follow it
abbrev pub AreRising : List ℕ → Type 0
AreRising [] = ⊤
AreRising (n ∷ ns) = AllByRecursion (λ m. n < m) ns × AreRising ns

-- at most 16 objects, each once
abbrev pub AreFewObjects : List ℕ → Type 0
AreFewObjects xs = (length xs ≤ most_objects) × AreRising xs

-- A root lists an end at most of each action of it that isn't open; it has at most 64 actions, and they use at most 16 objects.
-- Roots are among the actions that were begun, and what isn't has nothing.
pub record HasRoom (t : Tree) : Type 0 where
  pub ends : (k : ℕ) → length (ends_at k t) + open_in k t ≤ actions_at k t
  pub actions : (k : ℕ) → actions_at k t ≤ most_actions
  pub objects : (k : ℕ) → AreFewObjects (objects_at k t)
  pub roots : (b : Branch) → Contains t.branches b → (root_of b.path).num ≤ length t.branches
  pub fresh : (k : ℕ) → length t.branches < k → family_at k t ≡ no_family
