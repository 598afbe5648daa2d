use Rattle.std.proofs.Common.{◌<◌, [], arith, length, sym, subst}
use Rattle.std.specs.List.{AllByRecursion}
use Rattle.std.specs.Ordering.{nat_cmp}
use Rattle.arj_disk.specs.declared.slot.Slot.TheVariants.{Segment}
use Rattle.arj_segment.specs.Says.{numbers}
use Rattle.arj_segment.proofs.Picked.{Picks, picked_all, picks_next, picks_none, segments_once, segments_ordered}
use Rattle.arj_segment.proofs.numbering.numbers_in.Goals as goal

pub loop-slot-init : goal.loop-slot-init
loop-slot-init c = record {
  picks = subst (Picks (Segment c.args.role) nat_cmp []) (sym c.new-numbers.ensures) (picks_none (Segment c.args.role) nat_cmp);
  below = subst (AllByRecursion (λ k. k < numbers)) (sym c.new-numbers.ensures) tt;
}

pub loop-slot-preserved : goal.loop-slot-preserved
loop-slot-preserved c =
    let within : c.loop-slot.slot-index < length c.args.names.now = omega arith in
    record {
      picks = picks_next (Segment c.args.role) nat_cmp c.args.names.now c.loop-slot.slot-index _ c.loop-slot.numbers _ within c.loop-slot.invariant.picks c.requires (segments_ordered c.args.role) (segments_once c.args.role) c.in_ok-take_number.ensures.taken;
      below = c.in_ok-take_number.ensures.below c.loop-slot.invariant.below;
    }

pub returns-clause-there : goal.returns-clause-there
returns-clause-there c =
    (picked_all (Segment c.args.role) nat_cmp c.args.names.now c.loop-slot.slot-index c.loop-slot.numbers (omega arith) c.loop-slot.invariant.picks).there

pub returns-clause-only : goal.returns-clause-only
returns-clause-only c =
    (picked_all (Segment c.args.role) nat_cmp c.args.names.now c.loop-slot.slot-index c.loop-slot.numbers (omega arith) c.loop-slot.invariant.picks).from
