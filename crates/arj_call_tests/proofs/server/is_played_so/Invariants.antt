use Rattle.arj_base.specs.declared.state.Class.TheVariants as class
use Rattle.arj_server.specs.Classes.{IsOfClass}
use Rattle.arj_call_tests.proofs.server.is_played_so.Given as goal

-- object 1 stays a counter
abbrev pub invariant-loop-step : goal.invariant-loop-step
invariant-loop-step l = IsOfClass 1 class.Counter l.server
