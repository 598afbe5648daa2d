use Rattle.std.proofs.Common.{ap, ◌∙◌}
use Rattle.std.proofs.lemmas.Result.{IfOk-weaker}
use Rattle.arj_protocol.specs.Commit.{Plan}
use Rattle.arj_commit.specs.Marks.{marked_all}
use Rattle.arj_commit.proofs.Marking.{marked_stores}
use Rattle.arj_commit.proofs.preparing.marks_with.Goals as goal

pub returns : goal.returns
returns c =
    let p : Plan = c.args.plan.now in
    IfOk-weaker c.marked.result _ _ (λ marks e.
    (λ i. record p {
      excluded = (e ∙ (λ j. marked_all c.args.stores.now (c.as_slice-changed.ensures j) (c.as_slice-2.ensures j) (c.as_slice.ensures j))
          ∙ ap (λ (q : Plan). marked_all c.args.stores.now q.changed q.used q.excluded) c.plan.view_is) i;
    })
    ∙ marked_stores c.args.stores.now p c.requires) c.marked.ensures
