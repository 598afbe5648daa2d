use Rattle.std.proofs.Common.{[], ◌∷◌}
use Rattle.std.specs.Prelude.{not}
use Rattle.arj_protocol.specs.World.{is_known, is_node, was_given}
use Rattle.arj_world.proofs.Tests.{passes, there}
use Rattle.arj_world.proofs.world.World.include_refusal.Goals as goal

pub returns : goal.returns
returns g c = λ w keeps.
    let n = c.in-Some.ensures in
    passes 1 (not (is_node c.args.node w)) ((5, not (is_known c.args.label w)) ∷ (6, was_given c.args.label w) ∷ []) c.label_refusal.result
    (there g.C.Core c.args.node c.in-Some._n c.args.self.now w n.0 n.1 n.2 keeps) (c.label_refusal.ensures w keeps)
