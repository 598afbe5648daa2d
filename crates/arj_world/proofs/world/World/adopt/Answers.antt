use Rattle.std.proofs.Common.{◌≡◌, ◌∙◌, ◌+◌, [], ◌∷◌, length, map, arith, refl, ap, subst, sym}
use Rattle.std.proofs.lemmas.List.{length-append}
use Rattle.arj_world.specs.Wire.{frame_of}
use Rattle.arj_world.proofs.Adopted.{AreDown, adopts, down_next, down_none}
use Rattle.arj_world.proofs.world.World.adopt.Goals as goal

pub loop-node-init : goal.loop-node-init
loop-node-init g c = record {
  downs = subst (AreDown g.C.Core c.args.header) (sym c.new-cores.ensures.items) (down_none g.C.Core c.args.header);
  count = ap length c.new-cores.ensures.items;
}

pub loop-node-preserved : goal.loop-node-preserved
loop-node-preserved g c = record {
  downs = subst (AreDown g.C.Core c.args.header) (sym c.in_ok-push.ensures.items)
      (down_next g.C.Core c.args.header c.loop-node.cores.items c.in_ok-down.field-0 (c.loop-node.node + 1) c.loop-node.invariant.downs
      (ap (λ n. n + 1) (sym c.loop-node.invariant.count)) c.in_ok-down.ensures);
  count = omega (arith, ap length c.in_ok-push.ensures.items, length-append c.loop-node.cores.items (c.in_ok-down.field-0 ∷ []), c.loop-node.invariant.count);
}

pub returns-clause-stands : goal.returns-clause-stands
returns-clause-stands g c = λ st rest.
    let all : length c.loop-node.cores.items ≡ c.args.header.nodes =
    omega (arith, c.loop-node.invariant.count, c.loop-node-test.false, c.loop-node.auto.node-end) in
    record {
      header = refl;
      given = rest.labels;
      frames = ap (map frame_of) (sym c.new.ensures.net);
      lines = refl;
      labels = sym c.new-2.ensures.empty;
      arms = refl;
      event = sym c.new.ensures.event;
      full = sym c.new.ensures.full;
      over = refl;
      nodes = adopts g.C.Core g.D.Disk.file c.args.header st c.args.given.keys c.loop-node.cores.items c.args._rack.now c.loop-node.invariant.downs all rest;
    }

pub invariant_of-result : goal.invariant_of-result
invariant_of-result g c =
    let all : length c.loop-node.cores.items ≡ c.args.header.nodes =
    omega (arith, c.loop-node.invariant.count, c.loop-node-test.false, c.loop-node.auto.node-end) in
    (c.requires.least, c.requires.greatest, all, omega (arith, ap length c.new.ensures.net))
