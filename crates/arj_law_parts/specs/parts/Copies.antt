-- An active copy of an object at a server: its overlays and its locks agree.
use Rattle.std.specs.Prelude.{◌≡◌, ℕ, List, [], ◌∷◌, true, false, Some, Contains, ⊤}
use Rattle.arj_base.specs.Path.{before_last}
use Rattle.arj_base.specs.Rows.{Row, last_uid, front, is_on}
use Rattle.arj_base.specs.Uid.{uid_eq, object}
use Rattle.arj_base.specs.declared.uid.Uid.{Uid}
use Rattle.arj_lock.specs.Exclusion.{IsOneEach}
use Rattle.arj_protocol.specs.Copy.{Copy, Over, over_of, is_top_over}
use Rattle.arj_law_parts.specs.parts.Rows.{HasLock}

-- The path of each action, as the world knows it.
abbrev pub Paths : Type 0
Paths = Uid → List Uid

-- Paths make a tree: two actions that stand above each other are one, and a path without its last Uid is the path of the
-- Uid before, on which the action isn't. `begun_actions_make_a_tree` shows it of the actions that were begun.
pub record IsTree (paths : Paths) : Type 0 where
  pub anti : (a b : Uid) → is_on (paths a) b ≡ true → is_on (paths b) a ≡ true → a ≡ b
  pub heir : (u h : Uid) → before_last (paths u) ≡ Some h → (front (paths u) ≡ paths h) × (is_on (front (paths u)) u ≡ false)

-- each overlay is of a descendant of those under it
abbrev pub IsChain : List Over → Type 0
IsChain [] = ⊤
IsChain (e ∷ es) = ((f : Over) → Contains es f →
    (is_on e.holder (last_uid f.holder) ≡ true) × (uid_eq (last_uid f.holder) (last_uid e.holder) ≡ false)) × IsChain es

-- What holds of a copy: holders have their paths, an action has one lock, overlays are a chain, and who has an overlay
-- has the write lock.
pub record IsGoodCopy (paths : Paths) (x : ℕ) (c : Copy) : Type 0 where
  pub objects : (r : Row) → Contains c.rows r → r.object ≡ object x
  pub holders : (r : Row) → Contains c.rows r → r.holder ≡ paths (last_uid r.holder)
  pub one : IsOneEach c.rows
  pub overs : (e : Over) → Contains c.stack e → e.holder ≡ paths (last_uid e.holder)
  pub chain : IsChain c.stack
  pub guard : (e : Over) → Contains c.stack e → HasLock (last_uid e.holder) 2 c.rows

-- An action may commit here: no descendant of it has a lock. `ends_come_in_turn` shows it of ends that a coordinator tells.
abbrev pub IsLowest : Uid → List Row → Type 0
IsLowest u rows = (r : Row) → Contains rows r → is_on r.holder u ≡ true → last_uid r.holder ≡ u

-- An overlay that isn't a top's own is of an action that has a parent. It holds of a good server: each of its overlays is
-- at or below a top.
abbrev pub HasHeirs : Uid → Copy → Type 0
HasHeirs u c = (e : Over) → over_of u c.stack ≡ Some e → is_top_over e ≡ false → (h : Uid) × (before_last e.holder ≡ Some h)
