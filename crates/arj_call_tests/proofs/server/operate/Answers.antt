use Rattle.std.proofs.Common.{sym, subst}
use Rattle.arj_base.specs.declared.state.Class.TheVariants as class
use Rattle.arj_server.specs.Calls.{invoked}
use Rattle.arj_server.specs.Classes.{HasOp}
use Rattle.arj_server.proofs.Stays.{stays_ok}
use Rattle.arj_call_tests.proofs.server.operate.Goals as goal

pub invoke-requires-clause-has_op : goal.invoke-requires-clause-has_op
invoke-requires-clause-has_op c =
    subst (λ x. HasOp x c.args.m.now.op c.args.server.now.objects) (sym c.requires.object)
    (c.classes_stay.ensures.may 1 class.Counter c.args.m.now.op c.args.server.now c.requires.class c.requires.has_op)

pub returns : goal.returns
returns c =
    stays_ok 1 class.Counter c.invoke.result c.invoke.new.self (invoked 3 c.args.m.now c.args.server.now).part c.invoke.ensures.part
    (c.classes_stay.ensures.invoke 3 1 class.Counter c.args.m.now c.args.server.now c.requires.class)
