use Rattle.std.proofs.Common.{rules, ◌≡◌, ◌∙◌, ◌∷◌, [], ap, map}
use Rattle.arj_core.specs.Steps.{seen_of}
use Rattle.arj_world.specs.Wire.{put_seen, shown}
use Rattle.arj_world.proofs.Wires.{put_on}
use Rattle.arj_world.proofs.wire.Wire.put.Goals as goal

pub loop-output-preserved : goal.loop-output-preserved
loop-output-preserved c =
    let was = c.loop-output.invariant in
    let rest : c.loop-output.output-iterator.rest.items ≡ c.in-Some.output ∷ c.next.new.self.rest.items = search rules in (
      c.in_ok-put_one.ensures.few,
      c.in_ok-put_one.ensures.event ∙ was.1,
      was.2 ∙ ap (λ os. put_seen c.args.node c.args.self.now.event (map seen_of os) (shown c.loop-output.self c.loop-output.journal)) rest
          ∙ put_on c.args.node c.args.self.now.event c.in-Some.output c.next.new.self.rest.items c.loop-output.self c.loop-output.journal (shown c.put_one.new.self c.put_one.new.journal) was.0
          (c.in_ok-put_one.ensures.put ∙ ap (λ e. put_seen c.args.node e (seen_of c.in-Some.output ∷ []) (shown c.loop-output.self c.loop-output.journal)) was.1),
    )
