use Rattle.std.proofs.Common.{◌≡◌, ◌∙◌, ◌-◌, ◌++◌, [], suc, arith, refl, sym, ap, subst, Err}
use Rattle.std.specs.List.{AllByRecursion}
use Rattle.arj_core.specs.declared.node.CoreFault.TheVariants.{Halted}
use Rattle.arj_msg.specs.Sendable.{IsSendable}
use Rattle.arj_node.specs.Outgoing.{effects_of, messages_of}
use Rattle.arj_node.specs.Ran.{inward}
use Rattle.arj_protocol.specs.Node.{handle_all, whole}
use Rattle.arj_node.proofs.Handled.{Stage, flow, goes_so, is_nil, isnt_nil, same_fault, stage_end, stage_first, stage_halt, stage_over}
use Rattle.arj_node.proofs.Handled.{stage_turn}
use Rattle.arj_node.proofs.rounds.settle.Goals as goal

pub rounds-init : goal.rounds-init
rounds-init g c = record {
  there = c.requires.stands;
  all = λ header t es d stands are k counted.
      subst (λ j. Stage c.args.number j (g.P.Parts.stands header c.args.number c.args.parts.now (g.D.Disk.file c.args.disk.now)) (whole c.args.number t es d) d (flow c.args.out.now c.put_out.new.out [] (messages_of c.put_out.new.queue.items)))
      (omega (arith, counted))
      (stage_first c.args.number (g.P.Parts.stands header c.args.number c.args.parts.now (g.D.Disk.file c.args.disk.now)) t es d c.args.out.now c.put_out.new.out (messages_of c.put_out.new.queue.items)
      (goes_so c.args.number (g.P.Parts.stands header c.args.number c.args.parts.now (g.D.Disk.file c.args.disk.now)) t es d c.args.outs c.args.out.now c.put_out.new.out [] (messages_of c.put_out.new.queue.items) stands are c.in_ok-put_out.ensures.puts
      (c.in_ok-put_out.ensures.queue ∙ ap (λ q. messages_of q ++ inward c.args.number (effects_of c.args.outs)) c.new-queue.ensures.items)));
  spelled = c.in_ok-put_out.ensures.spelled (subst (λ q. AllByRecursion IsSendable (messages_of q)) (sym c.new-queue.ensures.items) tt);
  stops = refl;
  arms = refl;
  last_arm = refl;
}

pub returns-then-is_empty-clause-done : goal.returns-then-is_empty-clause-done
returns-then-is_empty-clause-done g c =
    λ header t es d stands are. stage_over c.args.number (g.P.Parts.stands header c.args.number c.rounds.parts (g.D.Disk.file c.rounds.disk)) (24 - c.rounds.counter) (whole c.args.number t es d) d c.args.out.now c.rounds.out (messages_of c.rounds.queue.items)
    (c.rounds.invariant.all header t es d stands are (24 - c.rounds.counter) (omega (arith, c.rounds-test.true)))
    (is_nil c.rounds.queue.items c.rounds.queue.len c.rounds.queue.ok.0 c.if-is_empty.ensures)

pub returns-in_err-round-clause-halted : goal.returns-in_err-round-clause-halted
returns-in_err-round-clause-halted g c = λ halted header t es d stands are.
    let fault : c.in_err-round.field-0.0 ≡ Halted =
    same_fault c.from_residual-in_err-round.result c.in_err-round.field-0.0 Halted c.from_residual-in_err-round.ensures.1 halted in
    stage_halt c.args.number (g.P.Parts.stands header c.args.number c.rounds.parts (g.D.Disk.file c.rounds.disk)) (g.P.Parts.rests header c.args.number (g.D.Disk.file c.round.new.disk)) (23 - c.rounds.counter) (whole c.args.number t es d) d c.args.out.now c.rounds.out c.round.new.out (messages_of c.rounds.queue.items)
    (isnt_nil c.rounds.queue.items c.rounds.queue.len c.rounds.queue.ok.0 c.if-is_empty.ensures)
    (c.rounds.invariant.all header t es d stands are (suc (23 - c.rounds.counter)) (omega (arith, c.rounds-test.true)))
    (λ h at. c.in_err-round.ensures.halted (ap Err fault) header h at)

pub rounds-preserved : goal.rounds-preserved
rounds-preserved g c =
    let x = c.rounds.invariant.there in
    record {
      there = (x.0, (handle_all c.args.number (messages_of c.rounds.queue.items) x.1).here, (c.in_ok-round.ensures.done x.0 x.1 x.2).goes.stands);
      all = λ header t es d stands are k counted. stage_turn c.args.number (g.P.Parts.stands header c.args.number c.rounds.parts (g.D.Disk.file c.rounds.disk)) k (g.P.Parts.stands header c.args.number c.round.new.parts (g.D.Disk.file c.round.new.disk)) (whole c.args.number t es d) d c.args.out.now c.rounds.out c.round.new.out (messages_of c.rounds.queue.items) (messages_of c.round.new.queue.items)
          (isnt_nil c.rounds.queue.items c.rounds.queue.len c.rounds.queue.ok.0 c.if-is_empty.ensures)
          (c.rounds.invariant.all header t es d stands are (suc k) (omega (arith, counted)))
          (λ h at. c.in_ok-round.ensures.done header h at);
      spelled = c.in_ok-round.ensures.spelled;
      stops = c.in_ok-round.ensures.counts.ok ∙ c.rounds.invariant.stops;
      arms = c.in_ok-round.ensures.counts.arms ∙ c.rounds.invariant.arms;
      last_arm = c.in_ok-round.ensures.counts.last_arm ∙ c.rounds.invariant.last_arm;
    }

pub returns-clause-done : goal.returns-clause-done
returns-clause-done g c =
    λ header t es d stands are. stage_end c.args.number (g.P.Parts.stands header c.args.number c.rounds.parts (g.D.Disk.file c.rounds.disk)) (whole c.args.number t es d) d c.args.out.now c.rounds.out (messages_of c.rounds.queue.items)
    (c.rounds.invariant.all header t es d stands are 0 (omega (arith, c.rounds-test.false, c.rounds.auto.counter-end)))
