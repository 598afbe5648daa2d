use Rattle.std.proofs.Common.{◌≡◌}
use Rattle.std.specs.Prelude.{option_map}
use Rattle.arj_base.specs.declared.uid.Uid.{Uid}
use Rattle.arj_naming.specs.Back.{prepared_as}
use Rattle.arj_protocol.specs.Confirm.{pending_of}
use Rattle.arj_protocol.specs.Effect.{either}
use Rattle.arj_protocol.specs.Order.{at_uid}
use Rattle.arj_naming.proofs.entries.Entries.pending.Given as goal

-- with the actions that are left it is what it is with all
abbrev pub invariant-loop-action : goal.invariant-loop-action
invariant-loop-action l =
    (u : Uid) → either (at_uid u l.pending.entries) (option_map prepared_as (pending_of u l.action-iterator)) ≡ option_map prepared_as (pending_of u l.self.pend)
