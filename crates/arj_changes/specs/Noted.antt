-- Numbers and Uids that are noted, with one more.
use Rattle.std.specs.Prelude.{ℕ, Bool, ◌==◌, ◌||◌, Option, Some, None}
use Rattle.arj_base.specs.Uid.{uid_eq}
use Rattle.arj_base.specs.declared.uid.Uid.{Uid}

-- whether a number is noted, where one is noted besides
abbrev pub noted_number : Option ℕ → Bool → ℕ → Bool
noted_number None before i = before
noted_number (Some n) before i = before || (n == i)

-- whether a Uid is noted, where one is noted besides
abbrev pub noted_uid : Option Uid → Bool → Uid → Bool
noted_uid None before u = before
noted_uid (Some w) before u = before || uid_eq w u
