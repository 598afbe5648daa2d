use Rattle.std.proofs.Common.{subst, sym}
use Rattle.arj_naming.specs.Entries.{AreNodes}
use Rattle.arj_naming.proofs.Nodes.{nodes_without}
use Rattle.arj_naming.proofs.checks.exclude_one.Goals as goal

pub returns-then-mark-x-clause-nodes : goal.returns-then-mark-x-clause-nodes
returns-then-mark-x-clause-nodes c =
    λ are. subst AreNodes (sym c.exclude.ensures.stores) (nodes_without c.args.mark.1 c.args.entry.now.stores are)
