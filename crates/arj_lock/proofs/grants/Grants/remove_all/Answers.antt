use Rattle.std.proofs.Common.{◌∙◌, ℕ, List, ap, sym, arith, filter, length, not}
use Rattle.arj_lock.specs.Groups.{has}
use Rattle.arj_lock.specs.Locks.{rows_in}
use Rattle.arj_lock.specs.declared.lock.Lock.{Lock}
use Rattle.arj_lock.proofs.Entries.{filter_none, is_in_group, none_in_group, parted, without_one}
use Rattle.arj_lock.proofs.grants.Grants.remove_all.Goals as goal

pub loop-grant-smaller : goal.loop-grant-smaller
loop-grant-smaller c =
    let a = parted c.in-Some.grant c.in-Some.lock.now c.loop-grant.self c.in-Some.ensures.at in
    let e = ap length c.remove.ensures in omega (arith, a.shorter, e)

pub loop-grant-preserved : goal.loop-grant-preserved
loop-grant-preserved c =
    let es = c.loop-grant.self in
    let e : ℕ × Lock = (c.in-Some.grant, c.in-Some.lock.now) in
    ap (λ (new : List (ℕ × Lock)). filter (λ row. not (has c.args.group row)) (rows_in new)) c.remove.ensures
    ∙ without_one c.args.group es e.0 e.1 c.in-Some.ensures.at (is_in_group c.args.group es e c.in-Some.ensures.sorted c.in-Some.ensures.first) ∙ c.loop-grant.invariant

pub returns : goal.returns
returns c =
    let es = c.loop-grant.self in
    sym (filter_none (has c.args.group) (rows_in es) (none_in_group c.args.group es c.in_default.ensures.first)) ∙ c.loop-grant.invariant
