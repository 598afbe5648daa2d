use Rattle.std.proofs.Common.{subst, sym, ap, ◌∙◌}
use Rattle.std.specs.Prelude.{IfSome}
use Rattle.arj_base.specs.Uid.{entry}
use Rattle.arj_base.specs.declared.uid.Uid.{Uid}
use Rattle.arj_naming.specs.Entries.{IsEntryState}
use Rattle.arj_law_store.proofs.store.Held.{found}
use Rattle.arj_protocol.specs.Order.{at_uid}
use Rattle.arj_naming.proofs.entries.Entries.get.Goals as goal

pub returns-clause-of : goal.returns-clause-of
returns-clause-of c =
    subst (λ o. IfSome o (IsEntryState (entry c.args.x))) (sym (c.get.ensures.value ∙ ap (λ (u : Uid). at_uid u c.self.inside.held.entries) c.entry_uid.ensures)) (found IsEntryState (entry c.args.x) c.self.inside.held.entries c.self.invariant.entries.held)
