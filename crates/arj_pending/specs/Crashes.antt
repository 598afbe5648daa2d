-- Which events of a script are crashes.
use Rattle.std.specs.Prelude.{ℕ, List, ◌∷◌, codes, Bool, false, nat_eq, Option, Some, None, slice_get}
use Rattle.std.specs.List.{filter_map, starts_with}
use Rattle.arj_seen.specs.declared.seen.Asked.{Asked}
use Rattle.arj_seen.specs.declared.seen.Asked.TheVariants as asked
use Rattle.arj_seen.specs.declared.seen.ScriptLine.{ScriptLine}

-- of a line that asks for this and has this text, whether it is a crash, where it is an event
abbrev pub flag_by : List ℕ → Asked → Option Bool
flag_by text asked.Nothing = None
flag_by text asked.Settling = Some false
flag_by text asked.Event = Some (starts_with nat_eq text (codes "crash "))

-- the same of a line of a script
abbrev pub flag_of : ScriptLine → Option Bool
flag_of line = flag_by line.text line.asked

-- of each event of a script whether it is a crash, behind the flag of event 0
abbrev pub crash_flags : List ScriptLine → List Bool
crash_flags script = false ∷ filter_map flag_of script

-- it is there, and says yes
abbrev pub is_set : Option Bool → Bool
is_set None = false
is_set (Some b) = b

-- the event of this number is a crash
abbrev pub is_crash_in : List Bool → ℕ → Bool
is_crash_in flags event = is_set (slice_get flags event)
