-- The lock matrix.
use Rattle.std.specs.Prelude.{ℕ, Bool, true, false, nat_le, if◌then◌else◌, Option, Some, None}
use Rattle.arj_base.specs.declared.mode.Mode.{Mode}
use Rattle.arj_base.specs.declared.mode.Mode.TheVariants.{Read, Exclude, Write}

-- read goes with read and exclude; write goes with nothing
abbrev pub conflicting : Mode → Mode → Bool
conflicting Read Write = true
conflicting Read _ = false
conflicting Exclude Read = false
conflicting Exclude _ = true
conflicting Write _ = true

-- the code of a mode in a message, and its strength
abbrev pub mode_code : Mode → ℕ
mode_code Read = 0
mode_code Exclude = 1
mode_code Write = 2

-- the one of greater strength
abbrev pub stronger : Mode → Mode → Mode
stronger a b = if nat_le (mode_code b) (mode_code a) then a else b

-- the stronger of two modes, where each may be missing
abbrev pub strongest : Option Mode → Option Mode → Option Mode
strongest None b = b
strongest (Some a) None = Some a
strongest (Some a) (Some b) = Some (stronger a b)
