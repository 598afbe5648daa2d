use Rattle.std.proofs.Common.{refl, sym, arith}
use Rattle.arj_base.specs.declared.state.Class.TheVariants as class
use Rattle.arj_class.specs.declared.value.Value.TheVariants as value
use Rattle.arj_server.specs.Calls.{activated}
use Rattle.arj_server.proofs.Stays.{stays_ok}
use Rattle.arj_call_tests.proofs.server.take.Goals as goal

pub activate-requires-clause-restores : goal.activate-requires-clause-restores
activate-requires-clause-restores c = (value.Counter 10, sym c.requires.counter, omega arith, tt, sym c.requires.payload)

pub returns : goal.returns
returns c =
    stays_ok 1 class.Counter c.activate.result c.activate.new.self (activated 3 c.args.m.now c.args.server.now).part c.activate.ensures.part
    (c.classes_stay.ensures.activate 3 1 class.Counter c.args.m.now c.args.server.now (λ _. rw c.requires.counter refl) c.requires.class)
