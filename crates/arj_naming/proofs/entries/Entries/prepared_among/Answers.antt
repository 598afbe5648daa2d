use Rattle.std.proofs.Common.{◌≡◌, ◌∙◌, ◌&&◌, ◌++◌, not, filter, [], sym, subst}
use Rattle.std.proofs.lemmas.List.{append-nil}
use Rattle.std.specs.List.Sorted.{IsStrictlySortedBy}
use Rattle.std.specs.Map.{keys_of}
use Rattle.arj_base.specs.Order.{uid_order}
use Rattle.arj_base.specs.Uid.{uid_eq}
use Rattle.arj_base.specs.declared.uid.Uid.{Uid}
use Rattle.arj_naming.proofs.Among.{in_both}
use Rattle.arj_protocol.specs.Effect.{Pair, is_prepared}
use Rattle.arj_naming.proofs.entries.Entries.prepared_among.Goals as goal

pub returns : goal.returns
returns c =
    let none : c.loop-act.act-iterator ≡ [] = c.in-None.ensures.steps.0 in
    let p = λ (act : Uid). not (uid_eq act c.args.but) && is_prepared act c.args.self.now in
    sym (append-nil c.loop-act.actions) ∙ ((λ i. c.loop-act.actions ++ filter p (sym none i)) ∙ (c.loop-act.invariant ∙ in_both c.args.but c.args.set.now.keys c.args.self.now.pend c.iter-act-items.ensures.ordered (subst (λ (d : Pair). IsStrictlySortedBy uid_order (keys_of d.pend)) c.self.view_is c.len-by_action.ensures.ordered)))
