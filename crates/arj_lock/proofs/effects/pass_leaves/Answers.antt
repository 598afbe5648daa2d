use Rattle.arj_base.specs.Rows.{last_uid, pass_rows, strengthened}
use Rattle.arj_lock.specs.Passing.{passing}
use Rattle.arj_lock.proofs.Members.{in_from, in_to}
use Rattle.arj_lock.proofs.PassLeaves.{came_by, pass_any, pass_fewer, pass_mode, stays_in}
use Rattle.arj_lock.proofs.effects.pass_leaves.Goals as goal

pub returns-clause-mode : goal.returns-clause-mode
returns-clause-mode c = pass_mode

pub returns-clause-fewer : goal.returns-clause-fewer
returns-clause-fewer c = pass_fewer

pub returns-clause-any : goal.returns-clause-any
returns-clause-any c = pass_any

pub returns-clause-stays : goal.returns-clause-stays
returns-clause-stays c = λ action rows r there other.
    in_to (strengthened r (passing action r.object (last_uid r.holder) rows)) (pass_rows action rows) (stays_in action rows r (in_from r rows there) other)

pub returns-clause-each : goal.returns-clause-each
returns-clause-each c = λ action rows r there. came_by action rows r (in_from r (pass_rows action rows) there)
