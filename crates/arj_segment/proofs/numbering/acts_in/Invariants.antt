use Rattle.std.proofs.Common.{take}
use Rattle.arj_base.specs.Order.{uid_order}
use Rattle.arj_disk.specs.declared.slot.Slot.TheVariants.{Pending}
use Rattle.arj_segment.proofs.Picked.{Picks}
use Rattle.arj_segment.proofs.numbering.acts_in.Given as goal

-- the actions are those of the names so far
abbrev pub invariant-loop-slot : goal.invariant-loop-slot
invariant-loop-slot l = Picks (Pending l.role) uid_order (take l.slot-index l.names) l.acts
