use Rattle.std.proofs.Common.{◌≡◌, ◌∙◌, [], Some, None, ap, subst}
use Rattle.std.specs.List.Sorted.{IsStrictlySortedBy}
use Rattle.std.specs.Map.{keys_of}
use Rattle.arj_base.specs.Order.{uid_order}
use Rattle.arj_base.specs.Uid.{entry}
use Rattle.arj_base.specs.declared.uid.Uid.{Uid}
use Rattle.arj_naming.proofs.EntryIndex.{looked}
use Rattle.arj_naming.specs.ByEntry.{AreByEntry, is_on_set}
use Rattle.arj_protocol.specs.Effect.{Pair}
use Rattle.arj_protocol.specs.Order.{at_uid}
use Rattle.arj_naming.proofs.entries.Entries.is_prepared_with.Goals as goal

pub returns-in-Some : goal.returns-in-Some
returns-in-Some c =
    let by_entry = c.self.inside.by_entry.entries in
    let under : Some c.in-Some.actions.now ≡ at_uid (entry c.args.x) by_entry =
    c.in-Some.ensures.value ∙ ap (λ (u : Uid). at_uid u by_entry) c.entry_uid.ensures in
    let rises = subst (λ (d : Pair). IsStrictlySortedBy uid_order (keys_of d.pend)) c.self.view_is c.len-by_action.ensures.ordered in
    let are = subst (λ (d : Pair). AreByEntry d.pend by_entry) c.self.view_is c.self.invariant.by_entry in
    c.any_lists.ensures ∙ looked c.args.x c.args.top c.args.store c.args.self.now.pend c.in-Some.actions.now.keys rises (λ act. ap (is_on_set act) under ∙ are (entry c.args.x) act)

pub returns-in-None : goal.returns-in-None
returns-in-None c =
    let by_entry = c.self.inside.by_entry.entries in
    let under : None ≡ at_uid (entry c.args.x) by_entry =
    c.in-None.ensures.value ∙ ap (λ (u : Uid). at_uid u by_entry) c.entry_uid.ensures in
    let rises = subst (λ (d : Pair). IsStrictlySortedBy uid_order (keys_of d.pend)) c.self.view_is c.len-by_action.ensures.ordered in
    let are = subst (λ (d : Pair). AreByEntry d.pend by_entry) c.self.view_is c.self.invariant.by_entry in
    looked c.args.x c.args.top c.args.store c.args.self.now.pend [] rises (λ act. ap (is_on_set act) under ∙ are (entry c.args.x) act)
