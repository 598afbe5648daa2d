-- Lock rows of one object at one place, as a function: what mode an action has (0 none, 1 read, 2 write).
use Rattle.std.proofs.Common.{◌≡◌, ◌≤◌, ◌⊎◌, ℕ, Bool, true, false, cond, max}
use Rattle.arj_law_lock.specs.machine.Actions.{Act, Sub, on, at_act}

-- the mode of each action
abbrev pub Rows : Type 0
Rows = Act → ℕ

-- the mode of a call: write or read
abbrev pub mode : Bool → ℕ
mode write = cond write 2 1

-- a request by the action for the mode meets no conflict
abbrev pub Clear : Rows → Act → ℕ → Type 0
Clear rows a mode = (b : Act) → on a b ≡ false → (rows b ≤ 1) × (2 ≤ mode → rows b ≡ 0)

-- no two rows conflict, unless one holder stands on the other's path
abbrev pub Apart : Rows → Type 0
Apart rows = (a b : Act) → 2 ≤ rows a → 1 ≤ rows b → (on a b ≡ true) ⊎ (on b a ≡ true)

-- the row is raised to the mode
abbrev pub raise : Rows → Act → ℕ → Rows
raise rows a mode = at_act rows a (max (rows a) mode)

-- the row of the action passes to the one above it
abbrev pub pass : Rows → Act → ℕ → Rows
pass rows a n = at_act (at_act rows a (max (rows a) (rows (Sub a n)))) (Sub a n) 0

-- the rows of the action and of all below it go
abbrev pub drop_below : Rows → Act → Rows
drop_below rows a b = cond (on b a) 0 (rows b)
