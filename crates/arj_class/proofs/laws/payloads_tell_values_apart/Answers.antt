use Rattle.arj_class.proofs.Payloads.{value_once}
use Rattle.arj_class.proofs.laws.payloads_tell_values_apart.Goals as goal

pub returns : goal.returns
returns c = value_once
