-- The objects that a program uses.
use Rattle.std.specs.Prelude.{ℕ, List, [], ◌∷◌, ◌++◌, length, Bool, ◌==◌, ◌||◌, nat_lt, if◌then◌else◌}
use Rattle.std.specs.List.{list_any}
use Rattle.arj_prog.specs.declared.limits.TheConstants.{PROGRAM_OBJECTS}

-- whether the object is used
abbrev pub is_used : ℕ → List ℕ → Bool
is_used x used = list_any (λ y. y == x) used

-- whether the object is used, or there is room for another
abbrev pub may_use : ℕ → List ℕ → Bool
may_use x used = is_used x used || nat_lt (length used) PROGRAM_OBJECTS

-- with the object, where it isn't among them and there is room
abbrev pub with_used : ℕ → List ℕ → List ℕ
with_used x used = if is_used x used then used else (if nat_lt (length used) PROGRAM_OBJECTS then used ++ x ∷ [] else used)
