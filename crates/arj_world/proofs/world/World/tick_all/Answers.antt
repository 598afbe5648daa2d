use Rattle.std.proofs.Common.{◌∙◌, ◌+◌, refl, ap, subst}
use Rattle.arj_protocol.specs.Step.{numbers_to}
use Rattle.arj_protocol.specs.World.{tick_all}
use Rattle.arj_world.specs.Goes.{GoesTo}
use Rattle.arj_world.specs.Stands.{hand}
use Rattle.arj_world.proofs.Disks.{moved_none, moved_on}
use Rattle.arj_world.proofs.Hands.{ticks_end, ticks_start, ticks_turn}
use Rattle.arj_world.specs.Tells.{nobody}
use Rattle.arj_world.proofs.Tells.{tells_none, tells_then}
use Rattle.arj_world.proofs.world.World.tick_all.Goals as goal

pub loop-node-init : goal.loop-node-init
loop-node-init g c = record {
  count = ap (λ k. k.header.nodes) c.self.view_is;
  goes = ticks_start g.C.Core g.D.Disk.file c.self.inside.header.nodes (hand c.args.self.now c.args.rack.now c.args.journal.now);
  header = refl;
  disks = moved_none g.D.Disk c.args.self.now.header.nodes c.args.rack.now;
  tells = tells_none g.D.Disk c.args.self.now.header.nodes nobody c.args.rack.now c.args.journal.now;
}

pub loop-node-preserved : goal.loop-node-preserved
loop-node-preserved g c = record {
  count = c.loop-node.invariant.count;
  goes = ticks_turn g.C.Core g.D.Disk.file c.loop-node.node (c.loop-node.node + 1) c.self.inside.header.nodes (hand c.args.self.now c.args.rack.now c.args.journal.now) (hand c.loop-node.self c.loop-node.rack c.loop-node.journal)
      (hand c.tick_up.new.self c.tick_up.new.rack c.tick_up.new.journal) c.loop-node.invariant.goes c.loop-node-test.true refl c.in_ok-tick_up.ensures.goes c.loop-node.invariant.header;
  header = c.in_ok-tick_up.ensures.header ∙ c.loop-node.invariant.header;
  disks = moved_on g.D.Disk c.args.self.now.header.nodes c.loop-node.self.header.nodes c.args.rack.now c.loop-node.rack c.tick_up.new.rack (ap (λ h. h.nodes) c.loop-node.invariant.header) c.loop-node.invariant.disks c.in_ok-tick_up.ensures.disks;
  tells = tells_then g.D.Disk c.args.self.now.header.nodes c.loop-node.self.header.nodes c.args.rack.now c.loop-node.rack c.tick_up.new.rack c.args.journal.now c.loop-node.journal c.tick_up.new.journal (ap (λ h. h.nodes) c.loop-node.invariant.header) c.loop-node.invariant.tells c.in_ok-tick_up.ensures.tells;
}

pub returns-clause-goes : goal.returns-clause-goes
returns-clause-goes g c =
    let first = hand c.args.self.now c.args.rack.now c.args.journal.now in
    let now = hand c.loop-node.self c.loop-node.rack c.loop-node.journal in
    subst (λ n. GoesTo g.C.Core g.D.Disk.file (tick_all (numbers_to n)) first now) c.loop-node.invariant.count
    (ticks_end g.C.Core g.D.Disk.file c.loop-node.node c.self.inside.header.nodes first now c.loop-node.invariant.goes c.loop-node-test.false)

pub returns-in_err-tick_up-clause-disks : goal.returns-in_err-tick_up-clause-disks
returns-in_err-tick_up-clause-disks g c =
    moved_on g.D.Disk c.args.self.now.header.nodes c.loop-node.self.header.nodes c.args.rack.now c.loop-node.rack c.tick_up.new.rack (ap (λ h. h.nodes) c.loop-node.invariant.header) c.loop-node.invariant.disks c.tick_up.ensures.disks

pub returns-clause-tells : goal.returns-clause-tells
returns-clause-tells g c = c.loop-node.invariant.tells
