use Rattle.std.proofs.Common.{◌≡◌, ◌∙◌, ◌++◌, ◌∷◌, [], ap, map, subst, sym}
use Rattle.std.specs.Prelude.{nat_lt}
use Rattle.arj_base.specs.Mode.{mode_code, stronger}
use Rattle.arj_base.specs.Rows.{Row, grant_row, has_row, is_row_of}
use Rattle.arj_lock.specs.Exclusion.{IsOneEach}
use Rattle.arj_lock.specs.Locks.{rows_in}
use Rattle.arj_lock.specs.Passing.{raised}
use Rattle.arj_lock.specs.Requests.{asked}
use Rattle.arj_lock.proofs.OneEach.{one_each_grant, one_each_map}
use Rattle.arj_lock.proofs.Own.{changed_none, grant_new, grant_raises, has_none, has_own, on_err}
use Rattle.arj_lock.proofs.Passes.{raised_holder, raised_object}
use Rattle.arj_lock.proofs.table.LockTable.grant.Goals as goal

pub invariant_of-self : goal.invariant_of-self
invariant_of-self c =
    let o = c.args.object in
    let h = c.last.result in
    subst IsOneEach (sym c.raise.ensures.rows) (one_each_map (raised o h c.args.mode) (rows_in c.self.inside.grants) (raised_object o h c.args.mode) (raised_holder o h c.args.mode) c.self.invariant)

pub returns-in-Some-clause-granted : goal.returns-in-Some-clause-granted
returns-in-Some-clause-granted c =
    let new = asked c.args.path.now c.args.object c.args.mode in
    let old = rows_in c.self.inside.grants in
    let there = has_own c.args.object c.last.result (λ held. nat_lt (mode_code held) (mode_code c.args.mode)) old c.in-Some.rose c.in-Some.ensures.rose in
    c.raise.ensures.rows ∙ ap (λ h. map (raised c.args.object h c.args.mode) old) c.last.ensures
    ∙ grant_raises new old c.self.invariant (ap (λ h. has_row c.args.object h old) (sym c.last.ensures) ∙ there)
    ∙ ap (grant_row new) c.self.view_is

pub invariant_of-self-in_err-push : goal.invariant_of-self-in_err-push
invariant_of-self-in_err-push c =
    let o = c.args.object in
    let h = c.last.result in
    subst IsOneEach (sym (ap rows_in c.in_err-push.ensures.err ∙ c.raise.ensures.rows))
    (one_each_map (raised o h c.args.mode) (rows_in c.self.inside.grants) (raised_object o h c.args.mode) (raised_holder o h c.args.mode) c.self.invariant)

pub returns-in_err-push-clause-kept : goal.returns-in_err-push-clause-kept
returns-in_err-push-clause-kept c =
    let old = rows_in c.self.inside.grants in
    let none = has_none c.args.object c.last.result (λ held. nat_lt (mode_code held) (mode_code c.args.mode)) old c.in_default.ensures.rose in
    on_err c.from_residual.result
    (ap rows_in c.in_err-push.ensures.err ∙ c.raise.ensures.rows ∙ changed_none (is_row_of c.args.object c.last.result) (λ (row : Row). record row { mode = stronger row.mode c.args.mode }) old none ∙ c.self.view_is)

granted : (c : goal.In_ok-push) →
    rows_in c.push.new.self ≡ grant_row (asked c.args.path.now c.args.object c.args.mode) (rows_in c.self.inside.grants)
granted c =
    let new = asked c.args.path.now c.args.object c.args.mode in
    let old = rows_in c.self.inside.grants in
    let none = has_none c.args.object c.last.result (λ held. nat_lt (mode_code held) (mode_code c.args.mode)) old c.in_default.ensures.rose in
    c.in_ok-push.ensures.ok
    ∙ ap (λ rows. rows ++ new ∷ []) (c.raise.ensures.rows ∙ changed_none (is_row_of c.args.object c.last.result) (λ (row : Row). record row { mode = stronger row.mode c.args.mode }) old none)
    ∙ grant_new new old (ap (λ h. has_row c.args.object h old) (sym c.last.ensures) ∙ none)

pub invariant_of-self-2 : goal.invariant_of-self-2
invariant_of-self-2 c =
    subst IsOneEach (sym (granted c)) (one_each_grant (asked c.args.path.now c.args.object c.args.mode) (rows_in c.self.inside.grants) c.self.invariant)

pub returns-clause-granted : goal.returns-clause-granted
returns-clause-granted c = granted c ∙ ap (grant_row (asked c.args.path.now c.args.object c.args.mode)) c.self.view_is
