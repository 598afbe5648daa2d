use Rattle.std.proofs.Common.{sym}
use Rattle.arj_base.specs.Rows.{lower_row}
use Rattle.arj_lock.specs.Requests.{lowered}
use Rattle.arj_lock.proofs.Leaves.{changed_in, lower_any, lower_mode}
use Rattle.arj_lock.proofs.Members.{in_from, in_map, in_to}
use Rattle.arj_lock.proofs.effects.lower_leaves.Goals as goal

pub returns-clause-mode : goal.returns-clause-mode
returns-clause-mode c = lower_mode

pub returns-clause-any : goal.returns-clause-any
returns-clause-any c = lower_any

pub returns-clause-stays : goal.returns-clause-stays
returns-clause-stays c =
    λ action object rows r there. in_to (lowered action object r) (lower_row action object rows) (changed_in (lowered action object) r rows (in_from r rows there))

pub returns-clause-each : goal.returns-clause-each
returns-clause-each c = λ action object rows r there.
    let f = in_map (lowered action object) r rows (in_from r (lower_row action object rows) there) in
    (f.0, in_to f.0 rows f.1, sym f.2)
