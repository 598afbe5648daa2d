use Rattle.std.proofs.Common.{sym}
use Rattle.arj_naming.proofs.EntryIndex.{take_under}
use Rattle.arj_naming.proofs.by_entry.take.Goals as goal

pub returns-in-Some : goal.returns-in-Some
returns-in-Some c =
    let left = c.drop_uid.new.set in
    take_under c.args.uid c.args.action c.in-Some.actions.now left c.args.by_entry.now.entries (c.get_mut.follows.lender left).entries (sym c.in-Some.ensures.value) (c.get_mut.follows.holds left).0 c.drop_uid.ensures
