use Rattle.std.proofs.Common.{◌≡◌, drop}
use Rattle.std.specs.List.{AllByRecursion}
use Rattle.arj_base.specs.State.{StateInForm}
use Rattle.arj_disk.specs.Says.{new_of}
use Rattle.arj_store.specs.Pair.{packed}
use Rattle.arj_saved.proofs.found.state_of.Given as goal

abbrev pub invariant-loop-state : goal.invariant-loop-state
invariant-loop-state l = record {
  rest : new_of (packed (drop l.state-index l.states)) l.uid ≡ new_of (packed l.states) l.uid;
  in_form : AllByRecursion StateInForm l.states → AllByRecursion StateInForm (drop l.state-index l.states);
}
