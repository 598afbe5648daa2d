use Rattle.std.proofs.Common.{◌<◌, take}
use Rattle.std.specs.List.{AllByRecursion}
use Rattle.std.specs.Ordering.{nat_cmp}
use Rattle.arj_disk.specs.declared.slot.Slot.TheVariants.{Segment}
use Rattle.arj_segment.specs.Says.{numbers}
use Rattle.arj_segment.proofs.Picked.{Picks}
use Rattle.arj_segment.proofs.numbering.numbers_in.Given as goal

-- the numbers are those of the names so far
abbrev pub invariant-loop-slot : goal.invariant-loop-slot
invariant-loop-slot l = record {
  picks : Picks (Segment l.role) nat_cmp (take l.slot-index l.names) l.numbers;
  below : AllByRecursion (λ k. k < numbers) l.numbers;
}
