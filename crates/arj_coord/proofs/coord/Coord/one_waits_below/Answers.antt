use Rattle.std.proofs.Common.{subst}
use Rattle.arj_coord.proofs.Waiters.{waits_below_is}
use Rattle.arj_protocol.specs.Coord.{Coord}
use Rattle.arj_tree.specs.Stands.{AreNamed}
use Rattle.arj_coord.proofs.coord.Coord.one_waits_below.Goals as goal

pub returns : goal.returns
returns c =
    waits_below_is c.args.self.now c.args.action c.any_waits_below.result (subst (λ (d : Coord). AreNamed d.tree.node d.tree.inc 1 d.tree.branches) c.self.view_is c.are_named.ensures) c.any_waits_below.ensures
