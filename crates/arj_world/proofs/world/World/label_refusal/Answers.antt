use Rattle.arj_world.proofs.Tests.{label_ended, label_passes, label_refused}
use Rattle.arj_world.proofs.world.World.label_refusal.Goals as goal

pub returns-then-not-is_known : goal.returns-then-not-is_known
returns-then-not-is_known g c = λ w keeps. label_refused c.args.label w (c.if-not-is_known.ensures w keeps)

pub returns-then-was_given : goal.returns-then-was_given
returns-then-was_given g c = λ w keeps. label_ended c.args.label w (c.if-not-is_known.ensures w keeps) (c.if-was_given.ensures w keeps)

pub returns-else-was_given : goal.returns-else-was_given
returns-else-was_given g c = λ w keeps. label_passes c.args.label w (c.if-not-is_known.ensures w keeps) (c.if-was_given.ensures w keeps)
