use Rattle.std.proofs.Common.{sym, subst}
use Rattle.arj_lock.specs.Exclusion.{AreApart}
use Rattle.arj_lock.specs.Requests.{asked}
use Rattle.arj_base_tests.proofs.lock.ask.Goals as goal

pub returns : goal.returns
returns c = λ on below apart.
    subst (AreApart on) (sym c.in_ok-rose.ensures.granted) (c.rows_stay_apart.ensures.grant on (asked c.args.path.now c.args.object c.args.mode) c.args.table.now below c.in_ok-rose.ensures.free apart)
