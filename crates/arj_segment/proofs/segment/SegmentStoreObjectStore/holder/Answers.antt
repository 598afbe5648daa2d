use Rattle.std.proofs.Common.{◌∙◌, sym, ap}
use Rattle.std.specs.Prelude.{option_copied}
use Rattle.arj_store.specs.Table.{at}
use Rattle.arj_segment.specs.Says.{pend}
use Rattle.arj_segment.proofs.Commits.{holder_is, no_holder}
use Rattle.arj_segment.proofs.segment.SegmentStoreObjectStore.holder.Goals as goal

pub returns-in-Some : goal.returns-in-Some
returns-in-Some c file keeps =
    holder_is (pend file c.args.self.now.role) (at c.args.self.now.kept.actions) (at c.args.self.now.kept.holdings) keeps.pending c.args.uid c.in-Some.holder.now (sym c.get.ensures ∙ ap option_copied c.in-Some.is)

pub returns-in-None : goal.returns-in-None
returns-in-None c file keeps =
    no_holder (pend file c.args.self.now.role) (at c.args.self.now.kept.actions) (at c.args.self.now.kept.holdings) keeps.pending c.args.uid (sym c.get.ensures ∙ ap option_copied c.in-None.is)
