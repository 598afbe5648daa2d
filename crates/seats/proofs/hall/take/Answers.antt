use Rattle.std.proofs.Common.{sym, subst}
use Rattle.arj_base.specs.Uid.{uid_eq}
use Rattle.arj_base.specs.declared.mode.Mode.TheVariants.{Write}
use Rattle.arj_lock.specs.Exclusion.{StandsBelow}
use Rattle.arj_lock.specs.Requests.{asked}
use Rattle.seats.specs.Seats.{IsSoldOnce}
use Rattle.seats.proofs.Alone.{alone}
use Rattle.seats.proofs.hall.take.Goals as goal

pub returns-in-Ok-clause-once : goal.returns-in-Ok-clause-once
returns-in-Ok-clause-once c = λ sold.
    let below = subst (StandsBelow uid_eq) (sym c.new.ensures.uids) (alone c.args.who (c.uids_are_told_apart.ensures.same c.args.who)) in
    subst IsSoldOnce (sym c.in-Ok.ensures.granted) (c.rows_stay_apart.ensures.grant uid_eq (asked c.new.result c.object_uid.result Write) c.args.hall.now below c.in-Ok.ensures.free sold)
