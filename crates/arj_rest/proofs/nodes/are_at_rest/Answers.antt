use Rattle.std.proofs.Common.{◌∙◌, sym}
use Rattle.arj_rest.proofs.Rests.{none_rests, one_rests, one_waits}
use Rattle.arj_rest.proofs.nodes.are_at_rest.Goals as goal

pub loop-done-init : goal.loop-done-init
loop-done-init c = none_rests c.args.image.now

pub loop-done-preserved : goal.loop-done-preserved
loop-done-preserved c = one_rests c.args.image.now c.loop-done.done c.loop-done.invariant (sym c.is_at_rest-rests.ensures ∙ c.if-not-rests.false)

pub returns-then-not-rests : goal.returns-then-not-rests
returns-then-not-rests c = one_waits c.args.image.now c.loop-done.done c.args.image.now.header.nodes c.loop-done-test.true (sym c.is_at_rest-rests.ensures ∙ c.if-not-rests.true)
