use Rattle.std.proofs.Common.{true, ap, ◌∙◌}
use Rattle.std.proofs.lemmas.Result.{IfOk-weaker}
use Rattle.arj_protocol.specs.Commit.{Plan}
use Rattle.arj_commit.specs.Sets.{awaited_in}
use Rattle.arj_commit.specs.Steps.{to_acknowledge}
use Rattle.arj_commit.proofs.next.awaited_of.Goals as goal

pub returns : goal.returns
returns c = IfOk-weaker c.awaited.result _ _ (λ nodes e.
    e ∙ (λ i. awaited_in (c.as_slice-used.ensures i) (c.as_slice-prepared.ensures i) (c.as_slice.ensures i) true)
    ∙ ap (λ (p : Plan). to_acknowledge (record p { confirmed = true })) c.plan.view_is) c.awaited.ensures
