use Rattle.std.proofs.Common.{◌≡◌, drop}
use Rattle.arj_past.specs.Rows.{states_fit}
use Rattle.arj_past.proofs.header.are_named.Given as goal

abbrev pub invariant-loop-state : goal.invariant-loop-state
invariant-loop-state l = states_fit l.objects l.role (drop l.state-index l.states) ≡ states_fit l.objects l.role l.states
