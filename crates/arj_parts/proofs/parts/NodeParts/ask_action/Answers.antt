use Rattle.std.proofs.Common.{◌≡◌, ◌∙◌, refl, sym, ap, subst, Err, Some, None}
use Rattle.arj_core.specs.declared.node.CoreFault.TheVariants.{Halted}
use Rattle.arj_node.specs.Acting.{asked_of}
use Rattle.arj_parts.specs.Acted.{IsAsked}
use Rattle.arj_parts.specs.Kept.{Kept}
use Rattle.arj_parts.proofs.Acting.{refused_so}
use Rattle.arj_parts.proofs.Performed.{same_fault}
use Rattle.arj_protocol.specs.Step.{refusal_up}
use Rattle.arj_parts.proofs.parts.NodeParts.ask_action.Goals as goal

pub returns-in-Some-clause-done : goal.returns-in-Some-clause-done
returns-in-Some-clause-done g c =
    let file = g.D.Disk.file c.args.disk.now in
    let p : Kept g.row.O.Denot =
    record { services = c.self.inside.services; coord = c.self.inside.coord; records = c.self.inside.records } in
    subst (λ k. IsAsked g.O.ObjectStore c.args.act c.args.class (record {
      old = k;
      new = k;
      file = file;
      left = file;
      before =
          c.args.outs.now;
      after = c.args.outs.now;
    }) (Some c.in-Some.cause)) c.self.view_is
    (λ header n h class stands. record {
      is =
          refused_so g.O.ObjectStore n p file h stands header c.args.act (Some c.in-Some.cause) (sym c.in-Some.is ∙ c.refusal.ensures header class);
      stands = stands;
      same = refl;
    })

pub returns-in_ok-do_asked-in-None-clause-done : goal.returns-in_ok-do_asked-in-None-clause-done
returns-in_ok-do_asked-in-None-clause-done g c = λ header n h class stands. record {
  free = refused_so g.O.ObjectStore n c.args.self.now (g.D.Disk.file c.args.disk.now) h stands header c.args.act None (sym c.in-None.is ∙ (c.refusal.ensures header class ∙ ap (λ (k : Kept g.row.O.Denot). refusal_up header (asked_of c.args.act) k.coord) c.self.view_is));
  does = c.in_ok-do_asked-in-None.ensures.done n h stands;
}

pub returns-in_err-do_asked-in-None-clause-halted : goal.returns-in_err-do_asked-in-None-clause-halted
returns-in_err-do_asked-in-None-clause-halted g c = λ halted header n h class stands.
    let fault : c.in_err-do_asked-in-None.field-0.0 ≡ Halted =
    same_fault c.from_residual.result c.in_err-do_asked-in-None.field-0.0 Halted c.from_residual.ensures.1 halted in
    (refused_so g.O.ObjectStore n c.args.self.now (g.D.Disk.file c.args.disk.now) h stands header c.args.act None (sym c.in-None.is ∙ (c.refusal.ensures header class ∙ ap (λ (k : Kept g.row.O.Denot). refusal_up header (asked_of c.args.act) k.coord) c.self.view_is)), c.in_err-do_asked-in-None.ensures.halted (ap Err fault) n h stands)
