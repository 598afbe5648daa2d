use Rattle.std.proofs.Common.{◌∙◌, ◌<◌, arith, length, get_or, refl, sym, subst}
use Rattle.arj_store.proofs.Counting.{counts_on}
use Rattle.arj_store.proofs.Lists.{all_at}
use Rattle.arj_store.specs.Table.{at}
use Rattle.arj_segment.specs.Formed.{IsFormed}
use Rattle.arj_segment.specs.Says.{numbers, segments}
use Rattle.arj_segment.specs.Tables.{Gathers}
use Rattle.arj_disk.specs.declared.slot.Slot.TheVariants.{Segment}
use Rattle.arj_segment.proofs.Gathered.{gathered_all, gathered_next, gathered_none}
use Rattle.arj_segment.proofs.gathering.gather.Goals as goal

pub loop-number-init : goal.loop-number-init
loop-number-init g c = record {
  gathered = gathered_none (segments (g.D.Disk.file c.args.disk.now) c.args.role) (at c.new-gathered.result.places) (at c.new-gathered.result.states) c.new-gathered.ensures.places c.new-gathered.ensures.states;
  files = refl;
  counts = record { stops = refl; arms = refl; last_arm = refl };
}

pub gather_segment-requires : goal.gather_segment-requires
gather_segment-requires g c = subst (λ file. IsFormed file c.args.role) (sym c.loop-number.invariant.files) c.requires.formed

pub loop-number-preserved : goal.loop-number-preserved
loop-number-preserved g c =
    let within : c.loop-number.number-index < length c.args.numbers.now = omega arith in
    record {
      gathered = gathered_next c.args.numbers.now c.loop-number.number-index 0 (segments (g.D.Disk.file c.args.disk.now) c.args.role) c.requires.numbers.rises within (all_at (λ k. k < numbers) c.args.numbers.now c.loop-number.number-index 0 within c.requires.numbers.below)
          (at c.loop-number.gathered.places) (at c.gather_segment.new.gathered.places) (at c.loop-number.gathered.states) (at c.gather_segment.new.gathered.states) c.loop-number.invariant.gathered
          (subst (λ file. Gathers (file (Segment c.args.role (get_or c.args.numbers.now c.loop-number.number-index 0))) (get_or c.args.numbers.now c.loop-number.number-index 0) (at c.loop-number.gathered.places) (at c.loop-number.gathered.states) (at c.gather_segment.new.gathered.places) (at c.gather_segment.new.gathered.states)) c.loop-number.invariant.files c.in_ok-gather_segment.ensures.ok);
      files = c.gather_segment.ensures.files ∙ c.loop-number.invariant.files;
      counts = counts_on c.in_ok-gather_segment.ensures.counts c.loop-number.invariant.counts;
    }

pub returns-clause-places : goal.returns-clause-places
returns-clause-places g c =
    (gathered_all c.args.numbers.now c.loop-number.number-index (segments (g.D.Disk.file c.args.disk.now) c.args.role) (omega arith) c.requires.numbers.there (at c.loop-number.gathered.places) (at c.loop-number.gathered.states) c.loop-number.invariant.gathered).places_are

pub returns-clause-states : goal.returns-clause-states
returns-clause-states g c =
    (gathered_all c.args.numbers.now c.loop-number.number-index (segments (g.D.Disk.file c.args.disk.now) c.args.role) (omega arith) c.requires.numbers.there (at c.loop-number.gathered.places) (at c.loop-number.gathered.states) c.loop-number.invariant.gathered).states_are
