use Rattle.std.proofs.Common.{subst}
use Rattle.arj_protocol.specs.Tree.{Tree}
use Rattle.arj_tree.specs.Stands.{AreNamed}
use Rattle.arj_tree.proofs.Named.{own_named, single_at, read_at, read_shown}
use Rattle.arj_tree.proofs.tree.Tree.action.Goals as goal

pub returns-clause-named : goal.returns-clause-named
returns-clause-named c =
    own_named c.args.action c.args.self.now c.in_ok-place.place c.index.result.now c.in_ok-place.ensures (subst (λ (t : Tree). AreNamed t.node t.inc 1 t.branches) c.self.view_is c.self.invariant.0.named)
    (read_shown _ c.args.self.now c.in_ok-place.place c.index.result.now c.self.view_is c.in_ok-place.ensures.within c.index.ensures)

pub returns-clause-single : goal.returns-clause-single
returns-clause-single c =
    single_at c.self.inside.node c.self.inside.inc 1 c.in_ok-place.place c.self.inside.actions.items c.index.result.now c.self.invariant.0.named (read_at _ c.args.self.now c.in_ok-place.place c.index.result.now c.self.view_is c.in_ok-place.ensures.within c.index.ensures)
