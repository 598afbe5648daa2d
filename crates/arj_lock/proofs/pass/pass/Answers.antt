use Rattle.std.proofs.Common.{◌∙◌, ℕ, sym}
use Rattle.arj_lock.specs.Locks.{rows_in}
use Rattle.arj_lock.specs.declared.group.Group.TheVariants.{Held}
use Rattle.arj_lock.specs.declared.lock.Lock.{Lock}
use Rattle.arj_lock.proofs.Entries.{is_in_group, none_in_group}
use Rattle.arj_lock.proofs.Passes.{nothing_passes}
use Rattle.arj_lock.proofs.pass.pass.Goals as goal

pub pass_one-requires-clause-own : goal.pass_one-requires-clause-own
pass_one-requires-clause-own c =
    let e : ℕ × Lock = (c.in-Some.grant, c.in-Some.lock.now) in
    is_in_group (Held c.args.action) c.loop-grant.grants e c.in-Some.ensures.sorted c.in-Some.ensures.first

pub returns-clause-rows : goal.returns-clause-rows
returns-clause-rows c =
    let es = c.loop-grant.grants in
    sym (nothing_passes c.args.action (rows_in es) (none_in_group (Held c.args.action) es c.in_default.ensures.first)) ∙ c.loop-grant.invariant.rows
