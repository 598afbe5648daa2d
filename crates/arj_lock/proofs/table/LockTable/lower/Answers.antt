use Rattle.std.proofs.Common.{sym, subst}
use Rattle.arj_lock.specs.Exclusion.{IsOneEach}
use Rattle.arj_lock.specs.Locks.{rows_in}
use Rattle.arj_lock.specs.Requests.{lowered}
use Rattle.arj_lock.proofs.OneEach.{one_each_map}
use Rattle.arj_lock.proofs.Own.{lowered_object, lowered_holder}
use Rattle.arj_lock.proofs.table.LockTable.lower.Goals as goal

pub invariant_of-self : goal.invariant_of-self
invariant_of-self c =
    subst IsOneEach (sym c.lower.ensures) (one_each_map (lowered c.args.action c.args.object) (rows_in c.self.inside.grants) (lowered_object c.args.action c.args.object) (lowered_holder c.args.action c.args.object) c.self.invariant)
