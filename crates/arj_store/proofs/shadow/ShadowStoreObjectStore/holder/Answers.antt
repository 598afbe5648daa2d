use Rattle.std.proofs.Common.{◌∙◌, sym, ap}
use Rattle.std.specs.Prelude.{option_copied}
use Rattle.arj_store.specs.Table.{at}
use Rattle.arj_store.proofs.Readings.{named_holder, not_in_doubt}
use Rattle.arj_store.proofs.shadow.ShadowStoreObjectStore.holder.Goals as goal

pub returns-in-Some : goal.returns-in-Some
returns-in-Some c file keeps =
    named_holder c.args.self.now.role (at c.args.self.now.pending.actions) (at c.args.self.now.pending.holdings) file keeps c.args.uid c.in-Some.holding.now (sym c.get.ensures ∙ ap option_copied c.in-Some.is)

pub returns-in-None : goal.returns-in-None
returns-in-None c file keeps =
    not_in_doubt c.args.self.now.role (at c.args.self.now.pending.actions) (at c.args.self.now.pending.holdings) file keeps c.args.uid (sym c.get.ensures ∙ ap option_copied c.in-None.is)
