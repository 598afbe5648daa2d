use Rattle.std.proofs.Common.{◌&&◌, not}
use Rattle.arj_naming.proofs.EntryIndex.{next_taken}
use Rattle.arj_naming.specs.ByEntry.{is_of, stands_under}
use Rattle.arj_naming.proofs.by_entry.take_all.Goals as goal

pub loop-state-preserved : goal.loop-state-preserved
loop-state-preserved c = λ u act.
    let ss = c.args.states.now in
    next_taken c.args.action ss c.loop-state.state-index c.state-item.result c.loop-state-test.true c.state-item.is c.loop-state.by_entry.entries c.take.new.by_entry.entries u act
    (stands_under c.args.by_entry.now.entries u act && not (is_of c.args.action ss u act)) (c.take.ensures u act) (c.loop-state.invariant u act)
