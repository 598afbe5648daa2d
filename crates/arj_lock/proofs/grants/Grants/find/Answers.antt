use Rattle.std.proofs.Common.{◌∙◌, ap, find, subst, sym}
use Rattle.arj_lock.specs.Groups.{is_next}
use Rattle.arj_lock.specs.Index.{IsIndex, lock_at}
use Rattle.arj_lock.proofs.Entries.{if_found, indexed_none, indexed_some}
use Rattle.arj_lock.proofs.grants.Grants.find.Goals as goal

pub returns-then-not-self-clause-at : goal.returns-then-not-self-clause-at
returns-then-not-self-clause-at c =
    rw (sym c.self.view_is) (if_found (is_next c.args.group c.args.after) c.self.inside.locks.entries c.scan.result c.self.invariant.sorted c.scan.ensures.first)

pub returns-in_err-grant-clause-first : goal.returns-in_err-grant-clause-first
returns-in_err-grant-clause-first c =
    let es = c.self.inside.locks.entries in
    let index = c.self.inside.index in
    rw c.from_residual.ensures (ap (find (is_next c.args.group c.args.after)) (sym c.self.view_is)
    ∙ indexed_none c.args.group c.args.after es index c.self.invariant.sorted (subst (λ b. IsIndex (λ n. lock_at n es) b index) c.if-not-self.false c.self.invariant.indexed) c.in_err-grant.ensures)

pub returns-clause-first : goal.returns-clause-first
returns-clause-first c =
    let es = c.self.inside.locks.entries in
    let index = c.self.inside.index in
    ap (find (is_next c.args.group c.args.after)) (sym c.self.view_is)
    ∙ indexed_some c.args.group c.args.after es index c.self.invariant.sorted (subst (λ b. IsIndex (λ n. lock_at n es) b index) c.if-not-self.false c.self.invariant.indexed) c.in_ok-grant.grant c.in_ok-lock.lock.now (sym c.in_ok-lock.ensures.value) c.in_ok-grant.ensures
