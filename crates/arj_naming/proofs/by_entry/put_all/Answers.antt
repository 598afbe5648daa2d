use Rattle.std.proofs.Common.{◌||◌}
use Rattle.arj_naming.proofs.EntryIndex.{next_other, next_put}
use Rattle.arj_naming.specs.ByEntry.{is_of, stands_under}
use Rattle.arj_naming.proofs.by_entry.put_all.Goals as goal

pub loop-state-preserved : goal.loop-state-preserved
loop-state-preserved c =
    let i = c.loop-state.state-index in
    let ss = c.args.states.now in
    let s = c.state-item.result in
    let first = c.args.by_entry.now.entries in
    let old = c.loop-state.by_entry.entries in
    let new = c.put.new.by_entry.entries in
    record {
      all = λ u act. next_put c.args.action ss i s c.loop-state-test.true c.state-item.is old new u act (stands_under first u act || is_of c.args.action ss u act) (c.in_ok-put.ensures.put u act) (c.loop-state.invariant.all u act);
      others = λ u act. next_other c.args.action ss i s c.loop-state-test.true c.state-item.is old new first u act (c.in_ok-put.ensures.put u act) (c.loop-state.invariant.others u act);
    }
