use Rattle.std.proofs.Common.{◌≡◌, ◌++◌, drop}
use Rattle.std.specs.List.{AllByRecursion}
use Rattle.arj_naming.specs.Entries.{IsNewState}
use Rattle.arj_protocol.specs.Confirm.{entries_after}
use Rattle.arj_naming.proofs.entries.Entries.entries_after.Given as goal

-- the states so far, and those of the objects that are left
abbrev pub invariant-loop-x : goal.invariant-loop-x
invariant-loop-x l = record {
  states : l.states ++ entries_after l.top (drop l.x-index l.m.objects) l.m.excluded l.m.included l.self ≡ entries_after l.top l.m.objects l.m.excluded l.m.included l.self;
  new : AllByRecursion (λ s. IsNewState s.uid s) l.states;
}
