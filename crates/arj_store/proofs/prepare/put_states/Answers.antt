use Rattle.std.proofs.Common.{◌+◌, ◌<◌, arith, length}
use Rattle.arj_store.proofs.Puts.{puts_of_all, step_first, step_has, step_puts}
use Rattle.arj_store.proofs.Counting.{counts_on}
use Rattle.arj_store.proofs.Ends.{on_err}
use Rattle.arj_store.proofs.prepare.put_states.Goals as goal

pub returns-in_err-put_state-clause-files : goal.returns-in_err-put_state-clause-files
returns-in_err-put_state-clause-files g c =
    let within : c.loop-state.state-index < length c.args.states.now = omega arith in
    puts_of_all c.args.place c.args.states.now (c.loop-state.state-index + 1) (g.D.Disk.file c.args.disk.now) (g.D.Disk.file c.put_state.new.disk)
    (step_puts c.args.place c.args.states.now c.loop-state.state-index c.state-item.result c.slot.result (g.D.Disk.file c.args.disk.now) (g.D.Disk.file c.loop-state.disk) (g.D.Disk.file c.put_state.new.disk)
    within c.state-item.is c.slot.ensures c.put_state.ensures.files c.loop-state.invariant.puts c.put_state.ensures.form)

pub returns-in_err-put_state-clause-fault : goal.returns-in_err-put_state-clause-fault
returns-in_err-put_state-clause-fault g c =
    let within : c.loop-state.state-index < length c.args.states.now = omega arith in
    on_err c.from_residual.result (step_first c.args.place c.args.states.now c.loop-state.state-index c.state-item.result c.slot.result (g.D.Disk.file c.args.disk.now) (g.D.Disk.file c.loop-state.disk) (g.D.Disk.file c.put_state.new.disk)
    within c.state-item.is c.slot.ensures c.put_state.ensures.files c.requires.distinct c.loop-state.invariant.puts c.loop-state.invariant.has c.put_state.ensures.form)

pub loop-state-preserved : goal.loop-state-preserved
loop-state-preserved g c =
    let within : c.loop-state.state-index < length c.args.states.now = omega arith in
    record {
      puts = step_puts c.args.place c.args.states.now c.loop-state.state-index c.state-item.result c.slot.result (g.D.Disk.file c.args.disk.now) (g.D.Disk.file c.loop-state.disk) (g.D.Disk.file c.put_state.new.disk)
          within c.state-item.is c.slot.ensures c.put_state.ensures.files c.loop-state.invariant.puts c.put_state.ensures.form;
      has = step_has c.args.place c.args.states.now c.loop-state.state-index c.state-item.result c.slot.result (g.D.Disk.file c.args.disk.now) (g.D.Disk.file c.loop-state.disk) (g.D.Disk.file c.put_state.new.disk)
          within c.state-item.is c.slot.ensures c.put_state.ensures.files c.requires.distinct c.loop-state.invariant.has c.in_ok-put_state.ensures.ok;
      counts = counts_on c.in_ok-put_state.ensures.counts c.loop-state.invariant.counts;
    }
