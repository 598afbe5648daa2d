use Rattle.std.proofs.Common.{◌∙◌, true, false, sym, ap, subst, Err}
use Rattle.arj_core.specs.declared.node.CoreFault.TheVariants.{Halted}
use Rattle.arj_node.specs.Handing.{outs_of}
use Rattle.arj_parts.specs.Calls.{Halts, Takes}
use Rattle.arj_parts.specs.Taken.{other_here}
use Rattle.arj_parts.proofs.Performed.{same_fault}
use Rattle.arj_parts.proofs.Hearing.{heard_halts, heard_leaves, heard_takes}
use Rattle.arj_protocol.proofs.CoordSays.{acked_own}
use Rattle.arj_protocol.specs.Ending.{acked}
use Rattle.arj_protocol.specs.Words.message
use Rattle.arj_parts.proofs.parts.NodeParts.acknowledge.Goals as goal

-- it is void
pub returns-then-not-branch-clause-done : goal.returns-then-not-branch-clause-done
returns-then-not-branch-clause-done g c =
    let o = g.O.ObjectStore in
    let file = g.D.Disk.file c.args.disk.now in
    let s = c.self.inside.services in
    let d = c.self.inside.coord in
    let r = c.self.inside.records in
    subst (λ k. Takes o (other_here c.args.from (message.Acked c.args.m.now)) (record {
      old = k;
      new =
          record { services = s; coord = c.acked.new.self; records = r };
      file =
          file;
      left = file;
      before = c.args.outs.now;
      after = c.args.outs.now;
    }) false) c.self.view_is
    (heard_leaves o s d r file c.acked.new.self c.args.outs.now (acked c.args.from c.args.m.now.act)
    (c.in_ok-acked.ensures.void c.if-not-branch.true) (sym c.if-not-branch.true ∙ c.in_ok-acked.ensures.taken))

-- it was taken
pub returns-clause-done : goal.returns-clause-done
returns-clause-done g c =
    let o = g.O.ObjectStore in
    let file = g.D.Disk.file c.args.disk.now in
    let left = g.D.Disk.file c.perform.new.disk in
    let s = c.self.inside.services in
    let d = c.self.inside.coord in
    let r = c.self.inside.records in
    subst (λ k. Takes o (other_here c.args.from (message.Acked c.args.m.now)) (record {
      old = k;
      new =
          record { services = s; coord = c.acked.new.self; records = c.perform.new.records };
      file =
          file;
      left = left;
      before = c.args.outs.now;
      after = c.perform.new.outs;
    }) true) c.self.view_is
    (heard_takes o s d r file g.met.O.ObjectStore.keeps_on g.met.O.ObjectStore.stays left c.perform.ensures.others c.perform.ensures.form c.acked.new.self c.perform.new.records c.args.outs.now c.perform.new.outs c.new-effects.result c.acked.new.outs c.new-effects.ensures
    (acked c.args.from c.args.m.now.act) (acked_own c.args.from c.args.m.now.act r d) c.in_ok-acked.ensures.part c.in_ok-acked.ensures.outs (sym c.if-not-branch.false ∙ c.in_ok-acked.ensures.taken) c.in_ok-perform.ensures.done)

-- its effects were stopped
pub returns-in_err-perform-clause-halted : goal.returns-in_err-perform-clause-halted
returns-in_err-perform-clause-halted g c = λ halted.
    let o = g.O.ObjectStore in
    let file = g.D.Disk.file c.args.disk.now in
    let left = g.D.Disk.file c.perform.new.disk in
    let s = c.self.inside.services in
    let d = c.self.inside.coord in
    let r = c.self.inside.records in
    subst (λ k. Halts o (λ n h. outs_of (other_here c.args.from (message.Acked c.args.m.now) n h)) (record {
      old = k;
      new =
          record { services = s; coord = c.acked.new.self; records = c.perform.new.records };
      file =
          file;
      left = left;
      before = c.args.outs.now;
      after = c.perform.new.outs;
    })) c.self.view_is
    (heard_halts o s d r file g.met.O.ObjectStore.keeps_on g.met.O.ObjectStore.stays left c.perform.ensures.others c.perform.ensures.form c.acked.new.self c.perform.new.records c.args.outs.now c.perform.new.outs c.new-effects.result c.acked.new.outs c.new-effects.ensures
    (acked c.args.from c.args.m.now.act) (acked_own c.args.from c.args.m.now.act r d) c.in_ok-acked.ensures.part c.in_ok-acked.ensures.outs (sym c.if-not-branch.false ∙ c.in_ok-acked.ensures.taken)
    (c.in_err-perform.ensures.halted (ap Err (same_fault c.from_residual-in_err-perform.result c.in_err-perform.field-0.0 Halted c.from_residual-in_err-perform.ensures.1 halted))))
