-- what was put out so far stands, and the others are still to come
use Rattle.std.proofs.Common.{◌≡◌, map}
use Rattle.arj_core.specs.Steps.{seen_of}
use Rattle.arj_world.specs.Wire.{AreFew, put_seen, shown}
use Rattle.arj_world.proofs.wire.Wire.put.Given as goal

abbrev pub invariant-loop-output : goal.invariant-loop-output
invariant-loop-output l = AreFew l.self.net × (l.self.event ≡ l.fn.self.event)
    × (put_seen l.fn.node l.fn.self.event (map seen_of l.fn.outputs) (shown l.fn.self l.fn.journal) ≡ put_seen l.fn.node l.fn.self.event (map seen_of l.output-iterator.rest.items) (shown l.self l.journal))
