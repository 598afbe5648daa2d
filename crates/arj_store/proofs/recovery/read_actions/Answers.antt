use Rattle.std.proofs.Common.{◌<◌, ◌∙◌, arith, length}
use Rattle.arj_store.specs.Table.{at}
use Rattle.arj_store.proofs.Recovering.{read_step_now}
use Rattle.arj_store.proofs.Counting.{counts_on}
use Rattle.arj_store.proofs.recovery.read_actions.Goals as goal

pub loop-slot-preserved : goal.loop-slot-preserved
loop-slot-preserved g c =
    let within : c.loop-slot.slot-index < length c.args.names.now = omega arith in
    record {
      read = read_step_now c.args.names.now c.loop-slot.slot-index _ c.args.role (g.D.Disk.file c.args.disk.now) (g.D.Disk.file c.loop-slot.disk) (at c.loop-slot.pending.actions) (at c.read_slot.new.pending.actions) (at c.loop-slot.pending.holdings) (at c.read_slot.new.pending.holdings)
          within c.loop-slot.invariant.read c.loop-slot.invariant.files c.in_ok-read_slot.ensures.ok;
      files = c.read_slot.ensures.files ∙ c.loop-slot.invariant.files;
      counts = counts_on c.in_ok-read_slot.ensures.counts c.loop-slot.invariant.counts;
    }
