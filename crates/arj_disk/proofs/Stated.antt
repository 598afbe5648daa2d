-- The comparison of names is the order that is stated.
use Rattle.std.proofs.Common.{◌≡◌, rules}
use Rattle.arj_disk.specs.declared.slot.Slot.{Slot}
use Rattle.arj_disk.specs.Slot.{slot_order}
use Rattle.arj_disk.specs.Stored.{slot_cmp}

as_stated : (p q : Slot) → slot_cmp p q ≡ slot_order p q
as_stated p q = search rules

pub slot_cmp_stated : slot_cmp ≡ slot_order
slot_cmp_stated = λ i p q. as_stated p q i
