use Rattle.std.proofs.Common.{◌&&◌, not, subst, sym, ◌∙◌}
use Rattle.arj_naming.proofs.EntryIndex.{taken_out}
use Rattle.arj_naming.specs.ByEntry.{AreByEntry, is_of, stands_under}
use Rattle.arj_naming.proofs.by_entry.take_prepared.Goals as goal

pub returns-clause-by_entry : goal.returns-clause-by_entry
returns-clause-by_entry c = λ are.
    let pend = c.args.pend.now.entries in
    let old = c.args.by_entry.now.entries in
    let new = c.take_all.new.by_entry.entries in
    subst (λ es. AreByEntry es new) (sym c.remove.ensures.entries)
    (taken_out c.args.action c.in_ok-states.states pend old new c.len-by_action.ensures.ordered (sym c.in_ok-states.ensures.value)
    (λ u act. c.take_all.ensures u act ∙ (λ i. stands_under old u act && not (is_of c.args.action (c.as_slice.ensures i) u act))) are)
