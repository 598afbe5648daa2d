-- A code for each value by the top that wrote it: two values have two, and two tops.
use Rattle.std.specs.Prelude.{ℕ, ◌+◌, ◌*◌, zero, suc, List, [], ◌∷◌}
use Rattle.arj_base.specs.State.{class_code_of}
use Rattle.arj_class.specs.Table.{class_of}
use Rattle.arj_class.specs.declared.value.Value.{Value}
use Rattle.arj_class.specs.declared.value.Value.TheVariants.{Account, Counter, Gone, Queue, Register, Table}
use Rattle.arj_law_lock.specs.machine.Actions.{Act, Root, Sub}

-- two numbers as one
abbrev pub both : ℕ → ℕ → ℕ
both zero n = 2 * n + 1
both (suc m) n = 2 * both m n

-- a list of numbers as one
abbrev pub all : List ℕ → ℕ
all [] = 0
all (n ∷ ns) = both n (all ns)

-- pairs as a list of numbers
abbrev pub flat : List (ℕ × ℕ) → List ℕ
flat [] = []
flat (p ∷ ps) = p.0 ∷ p.1 ∷ flat ps

-- what a value holds, as a number
abbrev pub held_in : Value → ℕ
held_in (Counter n) = n
held_in (Register bytes) = all bytes
held_in (Account n) = n
held_in (Queue ns) = all ns
held_in (Table ps) = all (flat ps)
held_in (Gone c) = class_code_of c

-- a value, by its class and what it holds
abbrev pub value_code : Value → ℕ
value_code v = both (class_code_of (class_of v)) (held_in v)

-- an action, by its path
abbrev pub act_code : Act → ℕ
act_code (Root n) = both 0 n
act_code (Sub a n) = both 1 (both (act_code a) n)

-- a value and who wrote it
abbrev pub code_of : Value → Act → ℕ
code_of v a = both (value_code v) (act_code a)
