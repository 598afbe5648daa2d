use Rattle.std.proofs.Common.{subst}
use Rattle.arj_coord.proofs.Waiters.{others_are}
use Rattle.arj_protocol.specs.Coord.{Coord}
use Rattle.arj_tree.specs.Stands.{AreNamed}
use Rattle.arj_coord.proofs.coord.Coord.others_call.Goals as goal

pub returns : goal.returns
returns c =
    others_are c.args.self.now c.args.root c.args.but c.args.x c.any_calls.result (subst (λ (d : Coord). AreNamed d.tree.node d.tree.inc 1 d.tree.branches) c.self.view_is c.are_named.ensures) c.any_calls.ensures
