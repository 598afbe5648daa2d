use Rattle.std.proofs.Common.{◌∙◌, ◌∷◌, ◌++◌, ◌+◌, ap, sym, subst, drop}
use Rattle.std.proofs.lemmas.List.{drop_more}
use Rattle.std.specs.List.Sorted.{IsStrictlySortedBy}
use Rattle.arj_base.specs.Order.{uid_order}
use Rattle.arj_base.specs.declared.state.ObjectState.{ObjectState}
use Rattle.arj_law_store.specs.store.Found.{by_uid}
use Rattle.arj_naming.proofs.Appended.{entry_goes}
use Rattle.arj_law_store.proofs.store.Keys.{total}
use Rattle.arj_law_store.proofs.store.Finds.{keys_by_uid}
use Rattle.arj_naming.proofs.found.states_by_uid.Goals as goal

pub loop-state-preserved : goal.loop-state-preserved
loop-state-preserved c =
    let i = c.loop-state.state-index in
    let ss = c.args.states.now in
    let s = c.state-item.result in
    let rest = drop (i + 1) ss in
    let left = ap by_uid (drop_more ss i s c.loop-state-test.true ∙ ap (λ t. t ∷ rest) (sym c.state-item.is)) ∙ ap (λ (t : ObjectState). (s.uid, t) ∷ by_uid rest) (sym c.in_ok-copy.ensures) in
    ap (λ es. es ++ by_uid rest) c.in_ok-insert.ensures.entries
    ∙ entry_goes uid_order total c.loop-state.held.entries s.uid c.in_ok-copy.copy (by_uid (drop i ss)) (by_uid rest) (by_uid ss) c.loop-state.invariant left (subst (IsStrictlySortedBy uid_order) (sym (keys_by_uid ss)) c.requires)
