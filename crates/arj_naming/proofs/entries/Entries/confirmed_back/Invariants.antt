use Rattle.std.proofs.Common.{◌≡◌, ◌++◌, List, map}
use Rattle.arj_base.specs.declared.state.ObjectState.{ObjectState}
use Rattle.arj_base.specs.declared.uid.Uid.{Uid}
use Rattle.arj_naming.proofs.entries.Entries.confirmed_back.Given as goal

-- the actions so far, and those that are left
abbrev pub invariant-loop-action : goal.invariant-loop-action
invariant-loop-action l =
    l.confirmed.keys ++ map (λ (p : Uid × List ObjectState). p.0) l.action-iterator ≡ map (λ (p : Uid × List ObjectState). p.0) l.self.pend
