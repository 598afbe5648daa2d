use Rattle.std.proofs.Common.{◌∙◌, ℕ, ap, sym, subst}
use Rattle.std.specs.Prelude.{nat_le}
use Rattle.arj_base.specs.Mode.{mode_code}
use Rattle.arj_lock.specs.Exclusion.{IsOneEach}
use Rattle.arj_lock.specs.Held.{is_any_write}
use Rattle.arj_lock.specs.Locks.{rows_in, shown}
use Rattle.arj_lock.specs.declared.group.Group.TheVariants.{Own}
use Rattle.arj_lock.specs.declared.lock.Lock.{Lock}
use Rattle.arj_lock.proofs.Entries.{is_in_group, none_in_group, parted}
use Rattle.arj_lock.proofs.Own.{none_own, only_own}
use Rattle.arj_lock.proofs.tops.is_any_write.Goals as goal

pub returns-in-Some : goal.returns-in-Some
returns-in-Some c =
    let es = c.args.grants.now in
    let x : ℕ × Lock = (c.in-Some.field-0-0, c.in-Some.lock.now) in
    let a = parted x.0 x.1 es c.in-Some.ensures.at in
    c.is_write.ensures
    ∙ sym (ap (is_any_write c.args.object c.args.action) a.split
    ∙ only_own c.args.object c.args.action (λ row. nat_le 2 (mode_code row.mode)) a.front (shown x.1) a.rest (subst IsOneEach a.split c.requires)
    (is_in_group (Own c.args.object c.args.action) es x c.in-Some.ensures.sorted c.in-Some.ensures.first))

pub returns-in-None : goal.returns-in-None
returns-in-None c =
    let es = c.args.grants.now in
    sym (none_own c.args.object c.args.action (λ row. nat_le 2 (mode_code row.mode)) (rows_in es) (none_in_group (Own c.args.object c.args.action) es c.in-None.ensures.first))
