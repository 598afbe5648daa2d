use Rattle.std.proofs.Common.{◌∙◌, ◌≡◌, ◌&&◌, ◌||◌, List, None, ap, not, subst, sym}
use Rattle.arj_base.specs.declared.state.ObjectState.{ObjectState}
use Rattle.arj_base.specs.declared.uid.Uid.{Uid}
use Rattle.arj_naming.proofs.EntryIndex.{put_again, put_back, put_in}
use Rattle.arj_naming.specs.ByEntry.{AreByEntry, is_of, stands_under}
use Rattle.arj_protocol.specs.Order.{at_uid, put_uid}
use Rattle.arj_law_store.proofs.store.Keys.{without_here}
use Rattle.arj_naming.proofs.by_entry.put_prepared.Goals as goal

pub returns-in-Err-clause-by_entry : goal.returns-in-Err-clause-by_entry
returns-in-Err-clause-by_entry c = λ are.
    let act = c.args.action in
    let none : at_uid act c.take_prepared.new.pend.entries ≡ None =
    ap (at_uid act) c.take_prepared.ensures.pend ∙ without_here act c.args.pend.now.entries c.take_prepared.ensures.by_action in
    let some = c.put_all.new.by_entry.entries in
    put_back act c.args.states c.take_prepared.new.pend.entries c.take_prepared.new.by_entry.entries c.take_all.new.by_entry.entries none (c.take_prepared.ensures.by_entry are) some
    (λ u w off. c.put_all.ensures.others u w ((λ i. is_of act (c.as_slice.ensures i) u w) ∙ off))
    (λ u w. c.take_all.ensures u w ∙ (λ i. stands_under some u w && not (is_of act (c.as_slice-in-Err.ensures i) u w)))

pub returns-in-Ok-insert-clause-pend : goal.returns-in-Ok-insert-clause-pend
returns-in-Ok-insert-clause-pend c =
    c.in-Ok-insert.ensures.entries ∙ (ap (put_uid c.args.action c.args.states) c.take_prepared.ensures.pend ∙ put_again c.args.action c.args.states c.args.pend.now.entries c.take_prepared.ensures.by_action)

pub returns-in-Ok-insert-clause-by_entry : goal.returns-in-Ok-insert-clause-by_entry
returns-in-Ok-insert-clause-by_entry c = λ are.
    let act = c.args.action in
    let none : at_uid act c.take_prepared.new.pend.entries ≡ None =
    ap (at_uid act) c.take_prepared.ensures.pend ∙ without_here act c.args.pend.now.entries c.take_prepared.ensures.by_action in
    let old = c.take_prepared.new.by_entry.entries in
    let new = c.put_all.new.by_entry.entries in
    subst (λ es. AreByEntry es new) (sym c.in-Ok-insert.ensures.entries)
    (put_in act c.args.states c.take_prepared.new.pend.entries old new none (c.take_prepared.ensures.by_entry are)
    (λ u w. c.in-Ok.ensures.all u w ∙ (λ i. stands_under old u w || is_of act (c.as_slice.ensures i) u w)))

pub returns-clause-by_entry : goal.returns-clause-by_entry
returns-clause-by_entry c = λ are.
    let act = c.args.action in
    let none : at_uid act c.take_prepared.new.pend.entries ≡ None =
    ap (at_uid act) c.take_prepared.ensures.pend ∙ without_here act c.args.pend.now.entries c.take_prepared.ensures.by_action in
    let some = c.put_all.new.by_entry.entries in
    let same : c.as_slice-in-Err-insert.result.now ≡ c.args.states =
    c.as_slice-in-Err-insert.ensures ∙ ap (λ (p : Uid × List ObjectState). p.1) c.in-Err-insert.ensures.value_returned in
    subst (λ es. AreByEntry es c.take_all-in-Err-insert.new.by_entry.entries) (sym c.in-Err-insert.ensures.err)
    (put_back act c.args.states c.take_prepared.new.pend.entries c.take_prepared.new.by_entry.entries c.take_all-in-Err-insert.new.by_entry.entries none (c.take_prepared.ensures.by_entry are) some
    (λ u w off. c.put_all.ensures.others u w ((λ i. is_of act (c.as_slice.ensures i) u w) ∙ off))
    (λ u w. c.take_all-in-Err-insert.ensures u w ∙ (λ i. stands_under some u w && not (is_of act (same i) u w))))
