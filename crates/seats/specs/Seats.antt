-- What the hall promises.
use Rattle.std.specs.Prelude.{ℕ, List, [], ◌∷◌, Option}
use Rattle.std.specs.Option.{option_map}
use Rattle.arj_base.specs.declared.mode.Mode.TheVariants.{Write}
use Rattle.arj_base.specs.declared.uid.Uid.{Uid}
use Rattle.arj_base.specs.Rows.{Row}
use Rattle.arj_base.specs.Uid.{object, uid_eq}
use Rattle.arj_lock.specs.Exclusion.{AreApart}
use Rattle.arj_lock.specs.Requests.{conflict_with}

-- Nobody has a seat that somebody else has: rows of one object that conflict, as two write locks do, are of one holder.
abbrev pub IsSoldOnce : List Row → Type 0
IsSoldOnce rows = AreApart uid_eq rows

-- who else has the seat, if somebody has
abbrev pub other_owner : Uid → ℕ → List Row → Option Uid
other_owner who seat rows = option_map (λ c. c.0) (conflict_with (who ∷ []) (object seat) Write rows)

-- the row by which somebody has the seat
abbrev pub owned : Uid → ℕ → Row
owned who seat = record { object = object seat; holder = who ∷ []; tops = 1; mode = Write }
