-- What the files of the shadow store say: the committed states, and what is prepared.
use Rattle.std.specs.Prelude.{ℕ, List, [], map, drop, get_or, Option, None, Some, option_map, unwrap_or, if◌then◌else◌}
use Rattle.arj_base.specs.declared.uid.Uid.{Uid}
use Rattle.arj_disk.specs.declared.slot.Role.{Role}
use Rattle.arj_disk.specs.declared.slot.Slot.TheVariants.{Committed, Shadow, Prepared}
use Rattle.arj_disk.specs.FileMap.{FileMap}
use Rattle.arj_disk.specs.Says.{names, role_eq, role_of, uids_in}

-- the objects that a prepared file names: their count is its byte 20
abbrev pub named_in : List ℕ → List Uid
named_in bytes = uids_in (get_or bytes 20 0) (drop 21 bytes)

-- the first of two files that is there
abbrev pub first_file : Option (List ℕ) → Option (List ℕ) → List ℕ
first_file (Some bytes) _ = bytes
first_file None other = unwrap_or other []

-- the new state of an object that is prepared: its shadow, or where that is gone the committed file
abbrev pub new_state : FileMap → Uid → List ℕ
new_state file u = first_file (file (Shadow u)) (file (Committed u))

-- the committed state of an object or entry, packed
abbrev pub held : FileMap → Role → Uid → Option (List ℕ)
held file role u = if role_eq (role_of u) role then file (Committed u) else None

-- each prepared action with its new states, packed, under their Uids
abbrev pub pend : FileMap → Role → Uid → Option (List (Uid × List ℕ))
pend file role a = option_map (λ bytes. map (λ u. (u, new_state file u)) (named_in bytes)) (file (Prepared role a))

-- An object or entry is in doubt where an action that is prepared names it.
abbrev pub InDoubt : FileMap → Role → Uid → Type 0
InDoubt file role u = (a : Uid) × names (pend file role a) u
