use Rattle.std.proofs.Common.{◌<◌, arith, length, refl}
use Rattle.arj_store.specs.Table.{at}
use Rattle.arj_store.proofs.Recovering.{sort_step, drops_step}
use Rattle.arj_store.proofs.Counting.{counts_on}
use Rattle.arj_store.proofs.recovery.sort_shadows.Goals as goal

pub returns-in_err-sort_slot-clause-files : goal.returns-in_err-sort_slot-clause-files
returns-in_err-sort_slot-clause-files g c =
    drops_step c.args.role (at c.args.holdings.now) (at c.loop-slot.holdings) (g.D.Disk.file c.args.disk.now) (g.D.Disk.file c.loop-slot.disk) (g.D.Disk.file c.sort_slot.new.disk) c.loop-slot.invariant.sorted.acts c.loop-slot.invariant.sorted.files c.sort_slot.ensures.files

pub loop-slot-preserved : goal.loop-slot-preserved
loop-slot-preserved g c =
    let within : c.loop-slot.slot-index < length c.args.names.now = omega arith in
    record {
      sorted = sort_step c.args.names.now c.loop-slot.slot-index _ c.args.role (g.D.Disk.file c.args.disk.now) (g.D.Disk.file c.loop-slot.disk) (g.D.Disk.file c.sort_slot.new.disk) (at c.args.holdings.now) (at c.loop-slot.holdings) (at c.sort_slot.new.holdings)
          within c.requires.there c.loop-slot.invariant.sorted _ refl c.in_ok-sort_slot.ensures.ok;
      counts = counts_on c.in_ok-sort_slot.ensures.counts c.loop-slot.invariant.counts;
    }
