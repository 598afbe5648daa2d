-- One pass over a list of records, which ends each.
use Rattle.std.specs.Prelude.{◌&&◌, ◌||◌, ◌++◌, if◌then◌else◌, Bool, List, [], ◌∷◌}
use Rattle.arj_record.specs.declared.record.Record.{Record}
use Rattle.arj_record.specs.Record.{is_lock}
use Rattle.arj_record.specs.Scene.{Call}

-- what a record tells the scene, unless it is a lock and an earlier one has told it already
abbrev pub calls_after : {V : Type 0} → (Record V → List (Call V)) → Bool → Record V → List (Call V)
calls_after calls told r = if told && is_lock r then [] else calls r

-- what the records tell the scene, one after another
abbrev pub calls_from : {V : Type 0} → (Record V → List (Call V)) → Bool → List (Record V) → List (Call V)
calls_from calls told [] = []
calls_from calls told (r ∷ rs) = calls_after calls told r ++ calls_from calls (told || is_lock r) rs
