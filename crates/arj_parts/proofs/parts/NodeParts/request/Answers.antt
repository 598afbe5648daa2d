use Rattle.std.proofs.Common.{◌≡◌, ◌∙◌, ◌++◌, ◌∷◌, [], false, true, sym, ap, subst, Ok, Err, List}
use Rattle.std.specs.Prelude.{IfOk}
use Rattle.std.proofs.lemmas.List.{append_assoc}
use Rattle.arj_core.specs.declared.node.CoreFault.TheVariants as fault
use Rattle.arj_node.specs.Handing.{outs_of}
use Rattle.arj_node.specs.Outgoing.{effects_of}
use Rattle.arj_node.specs.declared.outgoing.Outgoing.{Outgoing}
use Rattle.arj_parts.specs.Calls.{Call, Halts, Takes}
use Rattle.arj_parts.specs.Kept.{Kept}
use Rattle.arj_parts.specs.Said.{says_of}
use Rattle.arj_parts.specs.Taken.{asked_here}
use Rattle.arj_parts.proofs.Servings.{request_halts, request_takes, request_void, the_call}
use Rattle.arj_parts.proofs.Telling.{one_more}
use Rattle.arj_node.specs.declared.outgoing.Outgoing.TheVariants as of
use Rattle.arj_protocol.specs.Effect.{Send}
use Rattle.arj_serve.specs.Asked.{Serves}
use Rattle.arj_parts.proofs.parts.NodeParts.request.Goals as goal
use Rattle.arj_parts.proofs.parts.NodeParts.request.Goals.{in-Ok-None, in-Ok-Some+in_ok-say_lines-in-Ok-Some+in_ok-send-in-Ok-Some}
use Rattle.arj_parts.proofs.parts.NodeParts.request.Goals.{in-Err-Stopped+in_ok-say_lines-in-Err-Stopped, in-Err-Memory}

pub returns-clause-done : goal.returns-clause-done
returns-clause-done g c =
    let o = g.O.ObjectStore in
    let file = g.D.Disk.file c.args.disk.now in
    let left = g.D.Disk.file c.serve.new.disk in
    let now : Kept g.row.O.Denot = record { services = c.serve.new.self; coord = c.self.inside.coord; records = c.self.inside.records } in
    let by_outs : List Outgoing → Kept g.row.O.Denot → Call g.row.O.Denot =
    λ outs k. record { old = k; new = now; file = file; left = left; before = c.args.outs.now; after = outs } in
    elim c.match-serve.branch [
      | in-Ok-None w ↦ subst (λ r. IfOk r (Takes o (asked_here c.args.from c.args.m.now) (by_outs c.match-serve.outs c.args.self.now))) (sym w.result-is)
          (subst (λ outs. Takes o (asked_here c.args.from c.args.m.now) (by_outs outs c.args.self.now) false) (sym w.outs-is)
          (subst (λ k. Takes o (asked_here c.args.from c.args.m.now) (by_outs c.args.outs.now k) false) c.self.view_is
          (λ n h stands. request_void o g.met.O.ObjectStore.stays c.self.inside.services c.serve.new.self c.self.inside.coord c.self.inside.records file left c.new-lines.result c.serve.new.out c.new-lines.ensures c.args.m.now c.args.from c.serve.ensures.leaves n h stands
          (subst (Serves o c.args.m.now (the_call o g.met.O.ObjectStore.stays c.self.inside.services c.serve.new.self c.self.inside.coord c.self.inside.records file left c.new-lines.result c.serve.new.out c.new-lines.ensures c.args.m.now c.args.from c.serve.ensures.leaves)) w.in-Ok-None.field-0-is w.in-Ok-None.ensures.done)
          c.args.outs.now)))
      | in-Ok-Some+in_ok-say_lines-in-Ok-Some+in_ok-send-in-Ok-Some w ↦ subst (λ r. IfOk r (Takes o (asked_here c.args.from c.args.m.now) (by_outs c.match-serve.outs c.args.self.now))) (sym w.result-is)
          (subst (λ outs. Takes o (asked_here c.args.from c.args.m.now) (by_outs outs c.args.self.now) true) (sym w.outs-is)
          (subst (λ k. Takes o (asked_here c.args.from c.args.m.now) (by_outs w.send.new.self k) true) c.self.view_is
          (λ n h stands. request_takes o g.met.O.ObjectStore.stays c.self.inside.services c.serve.new.self c.self.inside.coord c.self.inside.records file left c.new-lines.result c.serve.new.out c.new-lines.ensures c.args.m.now c.args.from c.serve.ensures.leaves n h stands
          w.in-Ok-Some.answer
          (subst (Serves o c.args.m.now (the_call o g.met.O.ObjectStore.stays c.self.inside.services c.serve.new.self c.self.inside.coord c.self.inside.records file left c.new-lines.result c.serve.new.out c.new-lines.ensures c.args.m.now c.args.from c.serve.ensures.leaves)) w.in-Ok-Some.field-0-is w.in-Ok-Some.ensures.done)
          c.args.outs.now w.send.new.self
          (one_more (of.Send c.args.from w.in-Ok-Some.answer) w.say_lines.new.outs w.send.new.self w.in_ok-send-in-Ok-Some.ensures
          ∙ (ap (λ es. es ++ Send c.args.from w.in-Ok-Some.answer ∷ []) w.in_ok-say_lines-in-Ok-Some.ensures
          ∙ append_assoc (effects_of c.args.outs.now) (says_of c.serve.new.out) (Send c.args.from w.in-Ok-Some.answer ∷ []))))))
      | in-Err-Stopped+in_ok-say_lines-in-Err-Stopped w ↦ subst (λ r. IfOk r (Takes o (asked_here c.args.from c.args.m.now) (by_outs c.match-serve.outs c.args.self.now))) (sym w.result-is) tt
      | in-Err-Memory w ↦ subst (λ r. IfOk r (Takes o (asked_here c.args.from c.args.m.now) (by_outs c.match-serve.outs c.args.self.now))) (sym w.result-is) tt
    ]

pub returns-clause-halted : goal.returns-clause-halted
returns-clause-halted g c =
    let o = g.O.ObjectStore in
    let file = g.D.Disk.file c.args.disk.now in
    let left = g.D.Disk.file c.serve.new.disk in
    let now : Kept g.row.O.Denot = record { services = c.serve.new.self; coord = c.self.inside.coord; records = c.self.inside.records } in
    let by_outs : List Outgoing → Kept g.row.O.Denot → Call g.row.O.Denot =
    λ outs k. record { old = k; new = now; file = file; left = left; before = c.args.outs.now; after = outs } in
    elim c.match-serve.branch [
      | in-Ok-None w ↦ λ halted. let never : Ok false ≡ Err fault.Halted = sym w.result-is ∙ halted in absurd (cc never)
      | in-Ok-Some+in_ok-say_lines-in-Ok-Some+in_ok-send-in-Ok-Some w ↦ λ halted. let never : Ok true ≡ Err fault.Halted =
          sym w.result-is ∙ halted in absurd (cc never)
      | in-Err-Stopped+in_ok-say_lines-in-Err-Stopped w ↦ λ halted.
          subst (λ outs. Halts o (λ n h. outs_of (asked_here c.args.from c.args.m.now n h)) (by_outs outs c.args.self.now)) (sym w.outs-is)
          (subst (λ k. Halts o (λ n h. outs_of (asked_here c.args.from c.args.m.now n h)) (by_outs w.say_lines-in-Err-Stopped.new.outs k)) c.self.view_is
          (λ n h stands. request_halts o g.met.O.ObjectStore.stays c.self.inside.services c.serve.new.self c.self.inside.coord c.self.inside.records file left c.new-lines.result c.serve.new.out c.new-lines.ensures c.args.m.now c.args.from c.serve.ensures.leaves n h stands
          (w.in-Err-Stopped.ensures.stopped (ap Err w.in-Err-Stopped.field-0-is)) c.args.outs.now w.say_lines-in-Err-Stopped.new.outs w.in_ok-say_lines-in-Err-Stopped.ensures))
      | in-Err-Memory w ↦ λ halted. let never : Err fault.Memory ≡ Err fault.Halted = sym w.result-is ∙ halted in absurd (cc never)
    ]
