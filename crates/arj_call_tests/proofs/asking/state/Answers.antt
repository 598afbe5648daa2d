use Rattle.std.proofs.Common.{refl, sym}
use Rattle.arj_class.specs.declared.value.Value.TheVariants.{Counter}
use Rattle.arj_call_tests.proofs.asking.state.Goals as goal

pub returns : goal.returns
returns c = (Counter c.new.result, refl, c.in_ok-save_state.ensures.in_form, tt, sym c.in_ok-save_state.ensures.payload)
