use Rattle.std.proofs.Common.{◌∙◌}
use Rattle.arj_server.proofs.Loops.{unbound_step}
use Rattle.arj_server.proofs.server.Server.first_unbound.Goals as goal

pub returns-in-Some : goal.returns-in-Some
returns-in-Some c =
    unbound_step c.args.self.now c.args.objects.now c.loop-object.object-index _ _ _ c.loop-object-test.true c.changed_copy.ensures c.in-Some.is ∙ c.loop-object.invariant

pub loop-object-preserved : goal.loop-object-preserved
loop-object-preserved c =
    unbound_step c.args.self.now c.args.objects.now c.loop-object.object-index _ _ _ c.loop-object-test.true c.changed_copy.ensures c.in_default.is ∙ c.loop-object.invariant
