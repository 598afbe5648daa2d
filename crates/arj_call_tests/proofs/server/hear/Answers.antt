use Rattle.arj_base.specs.declared.state.Class.TheVariants as class
use Rattle.arj_server.specs.Calls.{told}
use Rattle.arj_server.proofs.Stays.{stays_ok}
use Rattle.arj_call_tests.proofs.server.hear.Goals as goal

pub returns : goal.returns
returns c =
    stays_ok 1 class.Counter c.told.result c.told.new.self (told 3 c.args.m.now c.args.server.now).part c.told.ensures.part
    (c.classes_stay.ensures.told 3 1 class.Counter c.args.m.now c.args.server.now c.requires)
