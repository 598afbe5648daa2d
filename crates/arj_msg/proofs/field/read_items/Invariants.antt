use Rattle.std.proofs.Common.{◌≡◌, ◌-◌}
use Rattle.arj_msg.specs.Format.{read_many}
use Rattle.arj_msg.proofs.Loop.{with_front}
use Rattle.arj_msg.proofs.field.read_items.Given as goal

abbrev pub invariant-loop : goal.invariant-loop
invariant-loop g l =
    with_front l.items (read_many g.T.Field.format (l.count - l.counter) l.rest) ≡ read_many g.T.Field.format l.count l.bytes
