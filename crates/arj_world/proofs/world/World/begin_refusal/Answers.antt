use Rattle.std.proofs.Common.{ap, Some, None, true, false, [], ◌∷◌, refl}
use Rattle.std.specs.Prelude.{not}
use Rattle.arj_protocol.specs.World.{is_known, is_node, is_up_at}
use Rattle.arj_world.proofs.Tests.{new_passes, new_refused, passes, refuses, stands_up, there}
use Rattle.arj_world.proofs.world.World.begin_refusal.Goals as goal

pub returns-then-not-is_up : goal.returns-then-not-is_up
returns-then-not-is_up g c = λ w keeps.
    let n = c.in-Some.ensures in
    passes 1 (not (is_node c.args.node w)) ((2, not (is_up_at c.args.node w)) ∷ (4, is_known c.args.label w) ∷ []) (Some 2) (there g.C.Core c.args.node c.in-Some.n c.args.self.now w n.0 n.1 n.2 keeps)
    (refuses 2 (not (is_up_at c.args.node w)) ((4, is_known c.args.label w) ∷ []) (ap not (stands_up g.C.Core c.args.node c.in-Some.n c.args.self.now w n.0 n.1 n.2 keeps false c.if-not-is_up.ensures)))

pub returns-then-is_known : goal.returns-then-is_known
returns-then-is_known g c = λ w keeps.
    let n = c.in-Some.ensures in
    passes 1 (not (is_node c.args.node w)) ((2, not (is_up_at c.args.node w)) ∷ (4, is_known c.args.label w) ∷ []) (Some 4) (there g.C.Core c.args.node c.in-Some.n c.args.self.now w n.0 n.1 n.2 keeps)
    (passes 2 (not (is_up_at c.args.node w)) ((4, is_known c.args.label w) ∷ []) (Some 4) (ap not (stands_up g.C.Core c.args.node c.in-Some.n c.args.self.now w n.0 n.1 n.2 keeps true c.if-not-is_up.ensures))
    (new_refused c.args.label [] w (c.if-is_known.ensures w keeps)))

pub returns-else-is_known : goal.returns-else-is_known
returns-else-is_known g c = λ w keeps.
    let n = c.in-Some.ensures in
    passes 1 (not (is_node c.args.node w)) ((2, not (is_up_at c.args.node w)) ∷ (4, is_known c.args.label w) ∷ []) None (there g.C.Core c.args.node c.in-Some.n c.args.self.now w n.0 n.1 n.2 keeps)
    (passes 2 (not (is_up_at c.args.node w)) ((4, is_known c.args.label w) ∷ []) None (ap not (stands_up g.C.Core c.args.node c.in-Some.n c.args.self.now w n.0 n.1 n.2 keeps true c.if-not-is_up.ensures))
    (new_passes c.args.label [] None w (c.if-is_known.ensures w keeps) refl))
