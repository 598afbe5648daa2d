use Rattle.arj_text.proofs.Values.{keys_rise}
use Rattle.arj_text.proofs.field_value.value_there.Goals as goal

pub new-requires-in-Some-5-clause-rising : goal.new-requires-in-Some-5-clause-rising
new-requires-in-Some-5-clause-rising c = let read = rw c.in-Some-5.is at c.in_ok-first-3.ensures in keys_rise c.in-Some-5.first read.0.2
