-- Clean disks, object by object.
use Rattle.std.specs.Prelude.{◌≡◌, ℕ, List, Some, is_some, true}
use Rattle.std.specs.List.{AllByRecursion}
use Rattle.arj_base.specs.State.{state_bytes}
use Rattle.arj_base.specs.Uid.{entry, object}
use Rattle.arj_disk.specs.declared.slot.Role.TheVariants.{Names, Store}
use Rattle.arj_journal.specs.declared.body.Line.{Line}
use Rattle.arj_journal.specs.declared.header.Header.{Header}
use Rattle.arj_model.specs.Disks.{Disks, InDoubt, held}
use Rattle.arj_model.specs.Last.{entry_state, last_state, listed, object_line}

-- a store holds the last state of object x, where nothing is in doubt there
abbrev pub HoldsLast : Header → List Line → Disks → ℕ → ℕ → Type 0
HoldsLast header lines disks x s =
    (InDoubt (disks s) Store (object x) → ⊥) → held (disks s) Store (object x) ≡ Some (state_bytes (last_state header lines x))

-- each of these does
abbrev pub StoresHoldLast : Header → List Line → Disks → ℕ → List ℕ → Type 0
StoresHoldLast header lines disks x stores = AllByRecursion (HoldsLast header lines disks x) stores

-- where the entry of object x isn't in doubt, it is the last one, and each listed store is clean
abbrev pub IsObjectClean : Header → List Line → Disks → ℕ → Type 0
IsObjectClean header lines disks x =
    (InDoubt (disks 1) Names (entry x) → ⊥) →
    (held (disks 1) Names (entry x) ≡ Some (state_bytes (entry_state header lines x))) × StoresHoldLast header lines disks x (listed header lines x)

-- each object of the header is clean
abbrev pub AreClean : Header → List Line → Disks → Type 0
AreClean header lines disks = (x : ℕ) → is_some (object_line header x) ≡ true → IsObjectClean header lines disks x
