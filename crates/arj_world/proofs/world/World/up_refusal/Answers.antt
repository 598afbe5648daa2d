use Rattle.std.proofs.Common.{ap, Some, None, true, false, [], ◌∷◌, refl}
use Rattle.std.specs.Prelude.{not}
use Rattle.arj_protocol.specs.World.{is_node, is_up_at}
use Rattle.arj_world.proofs.Tests.{passes, refuses, stands_up, there}
use Rattle.arj_world.proofs.world.World.up_refusal.Goals as goal

pub returns-then-is_up : goal.returns-then-is_up
returns-then-is_up g c = λ w keeps.
    let n = c.in-Some.ensures in
    passes 1 (not (is_node c.args.node w)) ((2, not (is_up_at c.args.node w)) ∷ []) None (there g.C.Core c.args.node c.in-Some.n c.args.self.now w n.0 n.1 n.2 keeps)
    (passes 2 (not (is_up_at c.args.node w)) [] None (ap not (stands_up g.C.Core c.args.node c.in-Some.n c.args.self.now w n.0 n.1 n.2 keeps true c.if-is_up.ensures)) refl)

pub returns-else-is_up : goal.returns-else-is_up
returns-else-is_up g c = λ w keeps.
    let n = c.in-Some.ensures in
    passes 1 (not (is_node c.args.node w)) ((2, not (is_up_at c.args.node w)) ∷ []) (Some 2) (there g.C.Core c.args.node c.in-Some.n c.args.self.now w n.0 n.1 n.2 keeps)
    (refuses 2 (not (is_up_at c.args.node w)) [] (ap not (stands_up g.C.Core c.args.node c.in-Some.n c.args.self.now w n.0 n.1 n.2 keeps false c.if-is_up.ensures)))
