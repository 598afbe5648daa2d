use Rattle.std.proofs.Common.{◌≡◌, drop}
use Rattle.arj_base.specs.declared.uid.Uid.{Uid}
use Rattle.arj_naming.specs.Back.{prepared_in}
use Rattle.arj_protocol.specs.Effect.{either}
use Rattle.arj_protocol.specs.Order.{at_uid}
use Rattle.arj_naming.proofs.pending.put_states.Given as goal

-- with the states that are left it is what it is with all
abbrev pub invariant-loop-state : goal.invariant-loop-state
invariant-loop-state l =
    (u : Uid) → either (at_uid u l.pending.entries) (prepared_in l.action (drop l.state-index l.states) u) ≡ either (at_uid u l.fn.pending.entries) (prepared_in l.action l.states u)
