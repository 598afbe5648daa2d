-- Actions are paths. A root stands for a unit: a serializing action, or what one plain or independent top-level action
-- makes up alone. Its children are its top-level actions, and below them stand nested ones.
use Rattle.std.proofs.Common.{◌≡◌, ◌⊎◌, ℕ, ◌+◌, ◌==◌, List, [], ◌∷◌, Bool, true, false, cond, ◌&&◌, ◌||◌}

-- An action by its path: a root, or what was begun as the n-th child of an action.
pub data Act : Type 0 where
  Root : ℕ → Act
  Sub : Act → ℕ → Act

-- the two are one action
abbrev pub same : Act → Act → Bool
same (Root u) (Root v) = u == v
same (Root u) (Sub b n) = false
same (Sub a m) (Root v) = false
same (Sub a m) (Sub b n) = same a b && (m == n)

-- the second stands on the first one's path: it is the first or stands above it
abbrev pub on : Act → Act → Bool
on (Root u) b = same (Root u) b
on (Sub a n) b = same (Sub a n) b || on a b

-- how many actions stand above it, with its unit
abbrev pub depth : Act → ℕ
depth (Root u) = 0
depth (Sub a n) = depth a + 1

-- the unit that the action is of
abbrev pub root : Act → ℕ
root (Root u) = u
root (Sub a n) = root a

-- the top-level action that it is or stands below (of a root: itself)
abbrev pub top : Act → Act
top (Root u) = Root u
top (Sub (Root u) n) = Sub (Root u) n
top (Sub (Sub a m) n) = top (Sub a m)

-- a top-level action: a child of a root
abbrev pub is_top : Act → Bool
is_top (Root u) = false
is_top (Sub (Root u) n) = true
is_top (Sub (Sub a m) n) = false

-- it is no root: it can make calls, and end
abbrev pub is_action : Act → Bool
is_action (Root u) = false
is_action (Sub a n) = true

-- a function with another value at one action, or at one number
abbrev pub at_act : {V : Type 0} → (Act → V) → Act → V → Act → V
at_act f a v b = cond (same b a) v (f b)

-- a function with another value at one number
abbrev pub at : {V : Type 0} → (ℕ → V) → ℕ → V → ℕ → V
at f k v j = cond (j == k) v (f j)

-- the item stands in the list
abbrev pub In : {X : Type 0} → X → List X → Type 0
In x [] = ⊥
In x (y ∷ ys) = (x ≡ y) ⊎ In x ys
