use Rattle.std.proofs.Common.{◌≡◌, ◌∙◌, ◌<◌, arith, length, get_or, refl, sym, subst, Some}
use Rattle.std.specs.Prelude.{Contains, MatchOption}
use Rattle.std.specs.List.{AllByRecursion}
use Rattle.std.specs.List.Sorted.{IsStrictlySortedBy}
use Rattle.std.specs.Ordering.{nat_cmp}
use Rattle.arj_store.proofs.Counting.{counts_on}
use Rattle.arj_store.proofs.Lists.{all_at}
use Rattle.arj_store.specs.Pair.{Packs}
use Rattle.arj_segment.specs.Says.{numbers, segments, state_in}
use Rattle.arj_disk.specs.declared.slot.Slot.TheVariants.{Segment}
use Rattle.arj_segment.proofs.Gathered.{looked_all, looked_next, looked_none}
use Rattle.arj_segment.proofs.looking.newest_in.Goals as goal

pub numbers_in-requires : goal.numbers_in-requires
numbers_in-requires g c = c.requires.increasing

pub loop-number-init : goal.loop-number-init
loop-number-init g c =
    record {
      state = looked_none (segments (g.D.Disk.file c.args.disk.now) c.args.role) c.args.uid;
      files = refl;
      counts =
          record { stops = refl; arms = refl; last_arm = refl };
    }

pub loop-number-preserved : goal.loop-number-preserved
loop-number-preserved g c =
    let within : c.loop-number.number-index < length c.as_slice-number-items.result.now = omega arith in
    record {
      state = looked_next c.as_slice-number-items.result.now c.loop-number.number-index 0 (segments (g.D.Disk.file c.args.disk.now) c.args.role) (subst (IsStrictlySortedBy nat_cmp) (sym c.as_slice-number-items.ensures) c.in_ok-numbers.ensures.rises) within
          (all_at (λ k. k < numbers) c.as_slice-number-items.result.now c.loop-number.number-index 0 within (subst (AllByRecursion (λ k. k < numbers)) (sym c.as_slice-number-items.ensures) c.in_ok-numbers.ensures.below))
          c.args.uid c.loop-number.state c.look_into.new.state c.loop-number.invariant.state
          (subst (λ file. MatchOption (state_in c.args.uid (file (Segment c.args.role (get_or c.as_slice-number-items.result.now c.loop-number.number-index 0)))) (c.look_into.new.state ≡ c.loop-number.state) (λ bytes. Packs (Some bytes) c.look_into.new.state))
          c.loop-number.invariant.files c.in_ok-look_into.ensures.ok);
      files = c.look_into.ensures.files ∙ c.loop-number.invariant.files;
      counts = counts_on c.in_ok-look_into.ensures.counts c.loop-number.invariant.counts;
    }

pub returns-clause-state : goal.returns-clause-state
returns-clause-state g c =
    looked_all c.as_slice-number-items.result.now c.loop-number.number-index (segments (g.D.Disk.file c.args.disk.now) c.args.role) c.loop-number-test.false
    (λ k within some. subst (λ ks. Contains ks k) (sym c.as_slice-number-items.ensures) (c.in_ok-numbers.ensures.there k ((c.requires.there (Segment c.args.role k)).0 some))) c.args.uid c.loop-number.state c.loop-number.invariant.state
