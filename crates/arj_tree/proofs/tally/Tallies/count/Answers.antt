use Rattle.std.proofs.Common.{sym}
use Rattle.arj_tree.proofs.Maps.{changed_found}
use Rattle.arj_tree.specs.Tally.{with_action}
use Rattle.arj_tree.proofs.tally.Tallies.count.Goals as goal

pub returns-in-Some-clause-counted : goal.returns-in-Some-clause-counted
returns-in-Some-clause-counted c =
    changed_found with_action c.args.root c.self.inside.roots.entries c.args.self.now (c.get_mut.follows.lender c.count.new.self).entries c.in-Some.tally.now c.count.new.self c.self.view_is
    (sym c.in-Some.ensures.value) c.get_mut.ensures.ordered (c.get_mut.follows.holds c.count.new.self).0 c.count.ensures
