use Rattle.std.proofs.Common.{◌∙◌, ap, rules, sym, ◌≡◌}
use Rattle.arj_naming.proofs.EntryIndex.{first_put, put_under, same_under}
use Rattle.arj_naming.proofs.Store.{on_err}
use Rattle.arj_protocol.specs.Order.{put_uid}
use Rattle.arj_naming.proofs.by_entry.put.Goals as goal

pub returns-in_err-insert-clause-err : goal.returns-in_err-insert-clause-err
returns-in_err-insert-clause-err c =
    let more = c.insert.new.self in
    on_err c.from_residual.result (same_under c.args.uid c.args.action c.in-Some.actions.now more c.args.by_entry.now.entries (c.get_mut.follows.lender more).entries (sym c.in-Some.ensures.value) (c.get_mut.follows.holds more).0 c.in_err-insert.ensures.err)

pub returns-in-Some-clause-put : goal.returns-in-Some-clause-put
returns-in-Some-clause-put c =
    let more = c.insert.new.self in
    put_under c.args.uid c.args.action c.in-Some.actions.now more c.args.by_entry.now.entries (c.get_mut.follows.lender more).entries (sym c.in-Some.ensures.value) (c.get_mut.follows.holds more).0 c.in_ok-insert.ensures.keys

pub returns-clause-put : goal.returns-clause-put
returns-clause-put c =
    let same : c.get_mut.follows.lender-at-none.entries ≡ c.args.by_entry.now.entries = search rules in
    first_put c.args.uid c.args.action c.insert-2.new.self c.new-actions.result c.args.by_entry.now.entries c.insert-3.new.self.entries (sym c.in_default.ensures.value) c.new-actions.ensures.empty c.in_ok-insert-2.ensures.keys (c.in_ok-insert-3.ensures.entries ∙ ap (put_uid c.args.uid c.insert-2.new.self) same)
