use Rattle.std.proofs.Common.{◌∙◌, ℕ, ap, refl}
use Rattle.arj_base.specs.declared.mode.Mode.TheVariants.{Read}
use Rattle.arj_lock.specs.Locks.{rows_in}
use Rattle.arj_lock.specs.declared.group.Group.TheVariants.{Own}
use Rattle.arj_lock.specs.declared.lock.Lock.{Lock}
use Rattle.arj_lock.proofs.Entries.{is_in_group}
use Rattle.arj_lock.proofs.Own.{own_changed, own_none}
use Rattle.arj_lock.proofs.pass.lower.Goals as goal

pub returns-in-Some : goal.returns-in-Some
returns-in-Some c =
    let e : ℕ × Lock = (c.in-Some.grant, c.in-Some.lock.now) in
    ap rows_in c.set.ensures
    ∙ own_changed c.args.object c.args.action (λ row. record row { mode = Read }) c.args.grants.now e.0 e.1 c.in-Some.ensures.at
    (is_in_group (Own c.args.object c.args.action) c.args.grants.now e c.in-Some.ensures.sorted c.in-Some.ensures.first) c.requires (record e.1 { mode = Read }) refl

pub returns-in_default : goal.returns-in_default
returns-in_default c =
    own_none c.args.object c.args.action (λ row. record row { mode = Read }) c.args.grants.now c.in_default.ensures.first
