use Rattle.std.proofs.Common.{◌≡◌, take, drop, map}
use Rattle.std.specs.Prelude.{IfSome}
use Rattle.std.specs.List.{AllByRecursion}
use Rattle.std.specs.Option.{option_copied, option_map}
use Rattle.arj_base.specs.State.{StateInForm, state_bytes}
use Rattle.arj_saved.specs.Saved.{held_among, rows_of}
use Rattle.arj_saved.proofs.found.last_state.Given as goal

abbrev pub invariant-loop-one : goal.invariant-loop-one
invariant-loop-one l = record {
  shown : option_map (λ s. state_bytes s) (option_copied l.found) ≡ held_among (map rows_of (take l.one-index l.segments)) l.node l.role l.uid;
  in_form : AllByRecursion (λ k. AllByRecursion StateInForm k.states) l.segments → IfSome (option_copied l.found) StateInForm;
  rest : AllByRecursion (λ k. AllByRecursion StateInForm k.states) l.segments → AllByRecursion (λ k. AllByRecursion StateInForm k.states) (drop l.one-index l.segments);
}
