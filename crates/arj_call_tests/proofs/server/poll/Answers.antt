use Rattle.arj_base.specs.declared.state.Class.TheVariants as class
use Rattle.arj_server.specs.Calls.{voted}
use Rattle.arj_server.proofs.Stays.{stays_ok}
use Rattle.arj_call_tests.proofs.server.poll.Goals as goal

pub returns : goal.returns
returns c =
    stays_ok 1 class.Counter c.vote.result c.vote.new.self (voted 3 c.args.m.now c.args.server.now).part c.vote.ensures.part
    (c.classes_stay.ensures.vote 3 1 class.Counter c.args.m.now c.args.server.now c.requires)
