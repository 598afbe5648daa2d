use Rattle.std.proofs.Common.{◌≡◌, map, ap, ◌∙◌}
use Rattle.std.proofs.lemmas.Result.{IfOk-weaker}
use Rattle.arj_protocol.specs.Commit.{Plan, participants}
use Rattle.arj_commit.specs.Awaiting.{Awaiting}
use Rattle.arj_commit.specs.Tolds.{sent_to, tolds}
use Rattle.arj_commit.proofs.Tells.{told_first}
use Rattle.arj_commit.proofs.telling.Telling.first.Goals as goal

pub returns : goal.returns
returns c =
    let plan_is : c.self.inside.plan ≡ c.args.self.now.plan = ap (λ (a : Awaiting). a.plan) c.self.view_is in
    let nodes_are : c.as_slice.result.now ≡ participants c.args.self.now.plan =
    c.as_slice.ensures ∙ c.in_ok-nodes.ensures.nodes ∙ ap participants plan_is in
    IfOk-weaker c.tolds.result _ _ (λ all e.
    ap (map sent_to) (e ∙ (λ i. let p : Plan = plan_is i in tolds p p.sent (nodes_are i) (c.has_record-ack.ensures i)))
    ∙ told_first c.args.self.now.plan c.args.self.now.plan.sent) c.tolds.ensures
