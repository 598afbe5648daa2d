use Rattle.std.proofs.Common.{◌<◌, ◌∙◌, arith, length, sym}
use Rattle.arj_store.proofs.Refusals.{refused_first}
use Rattle.arj_store.proofs.prepare.refusal.Goals as goal

pub returns-then-is_some-clause-answer : goal.returns-then-is_some-clause-answer
returns-then-is_some-clause-answer g c =
    let within : c.loop-state.state-index < length c.args.states.now = omega arith in
    refused_first (g.D.Disk.file c.args.disk.now) (g.D.Disk.file c.loop-state.disk) c.args.role c.args.act c.args.states.now c.loop-state.state-index c.state-item.result c.in_ok-refusal.refusal
    within c.state-item.is c.loop-state.invariant.files c.loop-state.invariant.clear c.in_ok-refusal.ensures.answer (sym c.is_some.ensures ∙ c.if-is_some.true)
