use Rattle.std.proofs.Common.{◌≡◌, ap, ◌∙◌, sym, subst}
use Rattle.std.proofs.lemmas.Result.{IfOk-weaker}
use Rattle.arj_protocol.specs.Commit.{Plan, participants}
use Rattle.arj_commit.specs.Sets.{part_in}
use Rattle.arj_commit.specs.Tolds.{AreInForm}
use Rattle.arj_commit.proofs.Nodes.{participants_in_form}
use Rattle.arj_commit.proofs.whom.participants.Goals as goal

pub returns-clause-form : goal.returns-clause-form
returns-clause-form c =
    let p : Plan = c.args.plan.now in
    IfOk-weaker c.part_in.result _ _ (λ nodes e.
    let is : nodes ≡ participants p = e ∙ (λ j. part_in (c.as_slice-used.ensures j) (c.as_slice.ensures j) c.plan.inside.confirmed)
    ∙ ap (λ (q : Plan). part_in q.used q.prepared q.confirmed) c.plan.view_is in
    subst AreInForm (sym is) (participants_in_form p c.requires)) c.part_in.ensures
