use Rattle.std.proofs.Common.{subst, sym}
use Rattle.arj_naming.specs.Entries.{AreNodes}
use Rattle.arj_naming.proofs.Nodes.{nodes_with}
use Rattle.arj_naming.proofs.checks.include_one.Goals as goal

pub returns-in_ok-include-clause-nodes : goal.returns-in_ok-include-clause-nodes
returns-in_ok-include-clause-nodes c =
    λ are. subst AreNodes (sym c.in_ok-include.ensures.stores) (nodes_with c.args.mark.1 c.args.entry.now.stores are c.requires)
