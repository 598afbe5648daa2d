-- The last state and entry by another order of the decided tops, as the serial order: what is asked of that order.
use Rattle.std.specs.Prelude.{◌≡◌, ℕ, List, [], ◌∷◌, Bool, true, false, ⊤}
use Rattle.arj_law_disk.specs.machine.State.{Packed, Done, entry_after}

-- the decided top counts
abbrev pub counts_of : Done → Bool
counts_of d = d.counts

-- the entry by an order of all decided tops, the newest first, every one alike
abbrev pub entry_by_all : Packed → List Done → Packed
entry_by_all first [] = first
entry_by_all first (d ∷ ds) = entry_after d.top d.plan d.got (entry_by_all first ds)
