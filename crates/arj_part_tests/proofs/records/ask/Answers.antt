use Rattle.std.proofs.Common.{sym, subst}
use Rattle.arj_intent.specs.Records.{AreInForm}
use Rattle.arj_part_tests.proofs.records.ask.Goals as goal

pub returns-in_err-list-in-List : goal.returns-in_err-list-in-List
returns-in_err-list-in-List c = subst AreInForm (sym c.list.ensures.files) c.requires

pub returns-in_ok-list-in-List : goal.returns-in_ok-list-in-List
returns-in_ok-list-in-List c = subst AreInForm (sym c.list.ensures.files) c.requires
