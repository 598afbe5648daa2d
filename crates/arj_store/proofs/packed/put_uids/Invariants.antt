use Rattle.std.proofs.Common.{◌≡◌, ◌++◌, take}
use Rattle.std.specs.Prelude.{flat_map}
use Rattle.std.specs.List.{AllByRecursion}
use Rattle.arj_base.specs.Uid.{uid_bytes, UidFits}
use Rattle.arj_store.proofs.packed.put_uids.Given as goal

abbrev pub invariant-loop-uid : goal.invariant-loop-uid
invariant-loop-uid l =
    record { bytes : l.bytes ≡ l.initial.bytes ++ flat_map uid_bytes (take l.uid-index l.uids); fit : AllByRecursion UidFits (take l.uid-index l.uids) }
