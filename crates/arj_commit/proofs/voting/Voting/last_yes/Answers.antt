use Rattle.std.proofs.Common.{◌≡◌, sym, ap, ◌∙◌, subst}
use Rattle.arj_protocol.specs.Commit.{Plan, begin_prepare, targets_of}
use Rattle.arj_commit.specs.Awaiting.{Awaiting}
use Rattle.arj_commit.specs.Plans.{with_changed}
use Rattle.arj_commit.specs.Steps.{MayEnter, begun, entered, next_of}
use Rattle.arj_commit.proofs.Follows.{may_votes, step_prepare}
use Rattle.arj_commit.proofs.voting.Voting.last_yes.Goals as goal

pub enter-requires-clause-may : goal.enter-requires-clause-may
enter-requires-clause-may c =
    let p : Plan = c.self.inside.plan in
    let q : Plan = with_changed c.args.more.items p in
    let next_is : c.in-Ok.next ≡ next_of (begin_prepare (targets_of q) q) =
    c.in-Ok.ensures ∙ ap (λ more. next_of (begin_prepare (targets_of (with_changed more p)) (with_changed more p))) c.as_slice.ensures.value in
    let fits = c.self.invariant.0 in
    subst (λ r. MayEnter r c.in-Ok.next) (sym c.in-Ok-with_changed.ensures.ok)
    (subst (MayEnter q) (sym next_is) (may_votes q (record { used = fits.used; prepared = fits.prepared }) c.self.invariant.1))

pub returns-in-Ok-with_changed-clause-step : goal.returns-in-Ok-with_changed-clause-step
returns-in-Ok-with_changed-clause-step c =
    let p : Plan = c.self.inside.plan in
    let q : Plan = with_changed c.args.more.items p in
    let next_is : c.in-Ok.next ≡ next_of (begin_prepare (targets_of q) q) =
    c.in-Ok.ensures ∙ ap (λ more. next_of (begin_prepare (targets_of (with_changed more p)) (with_changed more p))) c.as_slice.ensures.value in
    ap (λ (a : Awaiting). begin_prepare (targets_of (with_changed c.args.more.items a.plan)) (with_changed c.args.more.items a.plan)) (sym c.self.view_is)
    ∙ step_prepare q (targets_of q)
    ∙ ap begun (sym (c.enter.ensures ∙ (λ i. entered (c.in-Ok-with_changed.ensures.ok i) (next_is i))))
