use Rattle.std.proofs.Common.{◌≡◌, ◌∙◌, ap, sym, subst}
use Rattle.arj_asking.proofs.Paths.{given_up_of}
use Rattle.arj_asking.specs.Hearing.{IsOf}
use Rattle.arj_commit.specs.Steps.{after_stores, preparing}
use Rattle.arj_coord.specs.Shown.{machine_of}
use Rattle.arj_coord.specs.declared.now.Commit.{Commit}
use Rattle.arj_protocol.specs.Ask.{actor}
use Rattle.arj_protocol.specs.Commit.{Marked, Plan, plan_of}
use Rattle.arj_protocol.specs.Words.{Uid}
use Rattle.arj_asking.proofs.commits.give_up_commit.Goals as goal

pub after_stores-requires : goal.after_stores-requires
after_stores-requires c =
    let a = c.in-Preparing.step in
    let act : c.last-action.result ≡ actor a.plan.path =
    c.last-action.ensures ∙ ap (λ (p : Plan). actor p.path) (c.behind-deref.view_is ∙ c.plan_in.ensures ∙ ap (λ (m : Commit). plan_of (machine_of m)) (c.deref.ensures ∙ (sym c.into_inner.ensures ∙ c.in-Preparing.is))) in
    subst (λ (u : Uid). IsOf u ((after_stores c.in-Ok.step).step)) (sym act)
    (subst (λ (m : Marked). IsOf (actor a.plan.path) m.step) c.in-Ok.ensures.step (given_up_of (preparing a)))
