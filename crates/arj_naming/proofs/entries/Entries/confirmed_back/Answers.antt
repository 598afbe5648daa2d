use Rattle.std.proofs.Common.{◌∙◌, ◌++◌, List, map, subst, ap}
use Rattle.std.specs.List.Sorted.{IsStrictlySortedBy}
use Rattle.arj_base.specs.Order.{uid_order}
use Rattle.arj_base.specs.declared.state.ObjectState.{ObjectState}
use Rattle.arj_base.specs.declared.uid.Uid.{Uid}
use Rattle.arj_naming.proofs.Appended.{key_goes}
use Rattle.arj_law_store.proofs.store.Keys.{total}
use Rattle.arj_protocol.specs.Effect.{Pair}
use Rattle.arj_naming.proofs.entries.Entries.confirmed_back.Goals as goal

pub loop-action-preserved : goal.loop-action-preserved
loop-action-preserved c =
    let first = (λ (p : Uid × List ObjectState). p.0) in
    let rest = map first c.next.new.self in
    let sorted = subst (λ (d : Pair). IsStrictlySortedBy uid_order (map first d.pend)) c.self.view_is c.iter-action-items.ensures.ordered in
    ap (λ ks. ks ++ rest) c.in_ok-insert.ensures.keys
    ∙ key_goes uid_order total c.loop-action.confirmed.keys c.in-Some.action.now (map first c.loop-action.action-iterator) rest (map first c.args.self.now.pend) c.loop-action.invariant (ap (map first) c.in-Some.ensures.steps) sorted
