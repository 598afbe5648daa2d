use Rattle.std.proofs.Common.{◌<◌, ◌∙◌, arith, length, sym, subst}
use Rattle.std.specs.Prelude.{MatchOption}
use Rattle.arj_store.specs.Pair.{IsClear, Refuses}
use Rattle.arj_segment.specs.Says.{pair_of}
use Rattle.arj_segment.proofs.Refused.{refused_first}
use Rattle.arj_segment.proofs.refusals.refusal.Goals as goal

pub returns-then-is_some-clause-answer : goal.returns-then-is_some-clause-answer
returns-then-is_some-clause-answer g c =
    let within : c.loop-state.state-index < length c.args.states.now = omega arith in
    refused_first (pair_of (g.D.Disk.file c.args.disk.now) c.args.role) c.args.act c.args.states.now c.loop-state.state-index c.state-item.result c.in_ok-refusal.refusal within c.state-item.is c.loop-state.invariant.clear
    (subst (λ file. MatchOption c.in_ok-refusal.refusal (IsClear (pair_of file c.args.role) c.args.act c.state-item.result) (Refuses (pair_of file c.args.role) c.args.act c.state-item.result)) c.loop-state.invariant.files c.in_ok-refusal.ensures.answer)
    (sym c.is_some.ensures ∙ c.if-is_some.true)
