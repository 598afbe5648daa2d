use Rattle.std.proofs.Common.{not, subst, sym}
use Rattle.arj_base.specs.declared.mode.Mode.TheVariants.{Write}
use Rattle.arj_lock.specs.Exclusion.{IsOneEach}
use Rattle.arj_lock.specs.Groups.{has}
use Rattle.arj_lock.specs.Locks.{rows_in}
use Rattle.arj_lock.specs.declared.group.Group.TheVariants.{Against}
use Rattle.arj_lock.proofs.OneEach.{one_each_filter}
use Rattle.arj_lock.proofs.table.LockTable.close.Goals as goal

pub invariant_of-self : goal.invariant_of-self
invariant_of-self c =
    subst IsOneEach (sym c.remove_all.ensures) (one_each_filter (λ row. not (has (Against c.args.object Write) row)) (rows_in c.self.inside.grants) c.self.invariant)
