use Rattle.std.proofs.Common.{◌∙◌, true, false, sym, ap, subst, Err}
use Rattle.arj_core.specs.declared.node.CoreFault.TheVariants.{Halted}
use Rattle.arj_asking.specs.Hearing.{heard_as}
use Rattle.arj_node.specs.Handing.{outs_of}
use Rattle.arj_parts.specs.Calls.{Halts, Takes}
use Rattle.arj_parts.specs.Taken.{answered_here}
use Rattle.arj_parts.proofs.Performed.{same_fault}
use Rattle.arj_parts.proofs.Hearing.{heard_all, heard_halts, heard_leaves, heard_takes}
use Rattle.arj_parts.proofs.Voids.{heard_nothing}
use Rattle.arj_protocol.specs.Ask.{answers}
use Rattle.arj_parts.proofs.parts.NodeParts.answer.Goals as goal

-- it is void
pub returns-then-not-branch-clause-done : goal.returns-then-not-branch-clause-done
returns-then-not-branch-clause-done g c =
    let o = g.O.ObjectStore in
    let file = g.D.Disk.file c.args.disk.now in
    let s = c.self.inside.services in
    let d = c.self.inside.coord in
    let r = c.self.inside.records in
    let a = answers c.args.m.value in
    let void = sym c.if-not-branch.true ∙ c.in_ok-heard.ensures.taken in
    subst (λ k. Takes o (answered_here c.args.from c.args.m.value) (record {
      old = k;
      new =
          record { services = s; coord = c.heard.new.coord; records = r };
      file =
          file;
      left = file;
      before = c.args.outs.now;
      after = c.args.outs.now;
    }) false) c.self.view_is
    (heard_leaves o s d r file c.heard.new.coord c.args.outs.now (heard_as c.args.from a) (c.in_ok-heard.ensures.part ∙ heard_nothing c.args.from a r d void) void)

-- it was taken
pub returns-clause-done : goal.returns-clause-done
returns-clause-done g c =
    let o = g.O.ObjectStore in
    let file = g.D.Disk.file c.args.disk.now in
    let left = g.D.Disk.file c.perform.new.disk in
    let s = c.self.inside.services in
    let d = c.self.inside.coord in
    let r = c.self.inside.records in
    let a = answers c.args.m.value in
    subst (λ k. Takes o (answered_here c.args.from c.args.m.value) (record {
      old = k;
      new =
          record { services = s; coord = c.heard.new.coord; records = c.perform.new.records };
      file =
          file;
      left = left;
      before = c.args.outs.now;
      after = c.perform.new.outs;
    }) true) c.self.view_is
    (heard_takes o s d r file g.met.O.ObjectStore.keeps_on g.met.O.ObjectStore.stays left c.perform.ensures.others c.perform.ensures.form c.heard.new.coord c.perform.new.records c.args.outs.now c.perform.new.outs c.new-effects.result c.heard.new.outs c.new-effects.ensures
    (heard_as c.args.from a) (heard_all c.args.from a r d) c.in_ok-heard.ensures.part c.in_ok-heard.ensures.outs (sym c.if-not-branch.false ∙ c.in_ok-heard.ensures.taken) c.in_ok-perform.ensures.done)

-- its effects were stopped
pub returns-in_err-perform-clause-halted : goal.returns-in_err-perform-clause-halted
returns-in_err-perform-clause-halted g c = λ halted.
    let o = g.O.ObjectStore in
    let file = g.D.Disk.file c.args.disk.now in
    let left = g.D.Disk.file c.perform.new.disk in
    let s = c.self.inside.services in
    let d = c.self.inside.coord in
    let r = c.self.inside.records in
    let a = answers c.args.m.value in
    subst (λ k. Halts o (λ n h. outs_of (answered_here c.args.from c.args.m.value n h)) (record {
      old = k;
      new =
          record { services = s; coord = c.heard.new.coord; records = c.perform.new.records };
      file =
          file;
      left = left;
      before = c.args.outs.now;
      after = c.perform.new.outs;
    })) c.self.view_is
    (heard_halts o s d r file g.met.O.ObjectStore.keeps_on g.met.O.ObjectStore.stays left c.perform.ensures.others c.perform.ensures.form c.heard.new.coord c.perform.new.records c.args.outs.now c.perform.new.outs c.new-effects.result c.heard.new.outs c.new-effects.ensures
    (heard_as c.args.from a) (heard_all c.args.from a r d) c.in_ok-heard.ensures.part c.in_ok-heard.ensures.outs (sym c.if-not-branch.false ∙ c.in_ok-heard.ensures.taken)
    (c.in_err-perform.ensures.halted (ap Err (same_fault c.from_residual-in_err-perform.result c.in_err-perform.field-0.0 Halted c.from_residual-in_err-perform.ensures.1 halted))))
