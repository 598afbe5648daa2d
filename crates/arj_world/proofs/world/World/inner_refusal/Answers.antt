use Rattle.std.proofs.Common.{[], ◌∷◌}
use Rattle.std.specs.Prelude.{not}
use Rattle.arj_protocol.specs.World.{is_known, was_given}
use Rattle.arj_world.proofs.Tests.{new_passes, new_refused}
use Rattle.arj_world.proofs.world.World.inner_refusal.Goals as goal

pub returns-then-is_known : goal.returns-then-is_known
returns-then-is_known g c = λ w keeps.
    new_refused c.args.label ((5, not (is_known c.args.parent w)) ∷ (6, was_given c.args.parent w) ∷ []) w (c.if-is_known.ensures w keeps)

pub returns : goal.returns
returns g c = λ w keeps.
    new_passes c.args.label ((5, not (is_known c.args.parent w)) ∷ (6, was_given c.args.parent w) ∷ []) c.label_refusal.result w (c.if-is_known.ensures w keeps) (c.label_refusal.ensures w keeps)
