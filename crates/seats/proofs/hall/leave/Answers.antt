use Rattle.std.proofs.Common.{sym, subst}
use Rattle.arj_base.specs.Uid.{uid_eq}
use Rattle.seats.specs.Seats.{IsSoldOnce}
use Rattle.seats.proofs.hall.leave.Goals as goal

pub returns-clause-once : goal.returns-clause-once
returns-clause-once c =
    λ sold. subst IsSoldOnce (sym c.drop_action.ensures) (c.rows_stay_apart.ensures.drop uid_eq c.args.who c.args.hall.now sold)
