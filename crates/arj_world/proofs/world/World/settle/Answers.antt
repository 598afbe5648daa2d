use Rattle.std.proofs.Common.{ap, ◌≡◌, ◌∙◌, ◌-◌, suc, arith, sym, subst}
use Rattle.arj_protocol.specs.World.{settle, settle_for}
use Rattle.arj_world.specs.Goes.{GoesPartTo}
use Rattle.arj_world.specs.Stands.{hand}
use Rattle.arj_world.proofs.Disks.{moved_on}
use Rattle.arj_world.proofs.Hands.{settle_ends, settle_turns}
use Rattle.arj_world.proofs.Tells.{tells_then}
use Rattle.arj_world.proofs.world.World.settle.Goals as goal

pub returns-in_default-clause-goes : goal.returns-in_default-clause-goes
returns-in_default-clause-goes g c =
    settle_ends g.C.Core g.D.Disk.file c.loop-left.left settle (hand c.args.self.now c.args.rack.now c.args.journal.now) (hand c.loop-left.self c.loop-left.rack c.loop-left.journal)
    c.loop-left.invariant.goes (sym c.lowest.ensures ∙ c.in_default.is) c.loop-left.invariant.header

pub loop-left-preserved : goal.loop-left-preserved
loop-left-preserved g c =
    let first = hand c.args.self.now c.args.rack.now c.args.journal.now in
    let old = hand c.loop-left.self c.loop-left.rack c.loop-left.journal in
    let one_less : c.loop-left.left ≡ suc (c.loop-left.left - 1) = omega (arith, c.loop-left-test.true) in
    record {
      goes = settle_turns g.C.Core g.D.Disk.file (c.loop-left.left - 1) c.in-Some.k settle first old (hand c.deliver.new.self c.deliver.new.rack c.deliver.new.journal)
          (subst (λ n. GoesPartTo g.C.Core g.D.Disk.file settle (settle_for n) first old) one_less c.loop-left.invariant.goes)
          (sym c.lowest.ensures ∙ c.in-Some.is) c.in_ok-deliver.ensures.goes c.loop-left.invariant.header;
      header = c.in_ok-deliver.ensures.header ∙ c.loop-left.invariant.header;
      disks = moved_on g.D.Disk c.args.self.now.header.nodes c.loop-left.self.header.nodes c.args.rack.now c.loop-left.rack c.deliver.new.rack (ap (λ h. h.nodes) c.loop-left.invariant.header) c.loop-left.invariant.disks c.in_ok-deliver.ensures.disks;
      tells = tells_then g.D.Disk c.args.self.now.header.nodes c.loop-left.self.header.nodes c.args.rack.now c.loop-left.rack c.deliver.new.rack c.args.journal.now c.loop-left.journal c.deliver.new.journal (ap (λ h. h.nodes) c.loop-left.invariant.header) c.loop-left.invariant.tells c.in_ok-deliver.ensures.tells;
    }

pub returns-in_err-deliver-clause-disks : goal.returns-in_err-deliver-clause-disks
returns-in_err-deliver-clause-disks g c =
    moved_on g.D.Disk c.args.self.now.header.nodes c.loop-left.self.header.nodes c.args.rack.now c.loop-left.rack c.deliver.new.rack (ap (λ h. h.nodes) c.loop-left.invariant.header) c.loop-left.invariant.disks c.deliver.ensures.disks

pub returns-in_default-clause-tells : goal.returns-in_default-clause-tells
returns-in_default-clause-tells g c = c.loop-left.invariant.tells
