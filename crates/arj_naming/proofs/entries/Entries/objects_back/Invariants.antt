use Rattle.std.proofs.Common.{◌≡◌, ◌++◌, ℕ, map}
use Rattle.std.specs.List.{AllByRecursion, flat_map}
use Rattle.arj_base.specs.declared.state.ObjectState.{ObjectState}
use Rattle.arj_base.specs.declared.uid.Uid.{Uid}
use Rattle.arj_naming.specs.Entries.{IsEntryState}
use Rattle.arj_naming.specs.Said.{said}
use Rattle.arj_protocol.specs.Confirm.{back_lines, named_back}
use Rattle.arj_protocol.specs.Named.{Named}
use Rattle.arj_naming.proofs.entries.Entries.objects_back.Given as goal

-- the objects and lines so far, and those of the entries that are left
abbrev pub invariant-loop-uid : goal.invariant-loop-uid
invariant-loop-uid l = record {
  objects : l.objects.entries ++ map (named_back l.self) l.uid-iterator ≡ map (named_back l.self) l.self.held;
  lines : l.out ++ said (flat_map (λ (e : ℕ × Named). back_lines e.1) (map (named_back l.self) l.uid-iterator)) ≡ l.fn.out ++ said (flat_map (λ (e : ℕ × Named). back_lines e.1) (map (named_back l.self) l.self.held));
  left : AllByRecursion (λ (e : Uid × ObjectState). IsEntryState e.0 e.1) l.uid-iterator;
}
