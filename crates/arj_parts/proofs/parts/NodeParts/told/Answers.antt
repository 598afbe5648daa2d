use Rattle.std.proofs.Common.{◌∙◌, ◌++◌, true, sym, ap, subst, Err, List}
use Rattle.std.specs.Prelude.{OnOk}
use Rattle.std.proofs.lemmas.List.{append_assoc}
use Rattle.arj_node.specs.Handing.{outs_of}
use Rattle.arj_node.specs.Outgoing.{effects_of}
use Rattle.arj_node.specs.declared.outgoing.Outgoing.{Outgoing}
use Rattle.arj_parts.specs.Calls.{Call, Halts, Takes}
use Rattle.arj_parts.specs.Kept.{Kept}
use Rattle.arj_parts.specs.Said.{says_of}
use Rattle.arj_parts.specs.Taken.{other_here}
use Rattle.arj_parts.proofs.Servings.{handled_halts, handled_takes}
use Rattle.arj_parts.proofs.StateAsks.{told_states}
use Rattle.arj_protocol.specs.Words.message
use Rattle.arj_serve.specs.Asked.{sent_to}
use Rattle.arj_serve.specs.Did.{sends}
use Rattle.arj_parts.proofs.parts.NodeParts.told.Goals as goal
use Rattle.arj_parts.proofs.parts.NodeParts.told.Goals.{in-Ok+in_ok-say_lines-in-Ok+in_ok-send_back-in-Ok}
use Rattle.arj_parts.proofs.parts.NodeParts.told.Goals.{in-Err-Stopped+in_ok-say_lines-in-Err-Stopped, in-Err-Memory}

pub returns-clause-done : goal.returns-clause-done
returns-clause-done g c =
    let o = g.O.ObjectStore in
    let file = g.D.Disk.file c.args.disk.now in
    let left = g.D.Disk.file c.told.new.disk in
    let now : Kept g.row.O.Denot = record { services = c.told.new.self; coord = c.self.inside.coord; records = c.self.inside.records } in
    let by_outs : List Outgoing → Kept g.row.O.Denot → Call g.row.O.Denot =
    λ outs k. record { old = k; new = now; file = file; left = left; before = c.args.outs.now; after = outs } in
    elim c.match-told.branch [
      | in-Ok+in_ok-say_lines-in-Ok+in_ok-send_back-in-Ok w ↦ subst (λ r. OnOk r (Takes o (other_here c.args.from (message.Told c.args.m.now)) (by_outs c.match-told.outs c.args.self.now) true)) (sym w.result-is)
          (subst (λ outs. Takes o (other_here c.args.from (message.Told c.args.m.now)) (by_outs outs c.args.self.now) true) (sym w.outs-is)
          (subst (λ k. Takes o (other_here c.args.from (message.Told c.args.m.now)) (by_outs w.send_back.new.outs k) true) c.self.view_is
          (λ n h stands. handled_takes o g.met.O.ObjectStore.stays c.self.inside.services c.told.new.self c.self.inside.coord c.self.inside.records file left c.new-lines.result c.told.new.out c.new-lines.ensures (message.Told c.args.m.now) c.args.from c.told.ensures.leaves n h stands
          (λ from. sent_to from w.in-Ok.answer) (told_states n h.disk h.parts c.args.from c.args.m.now) w.in-Ok.ensures.done c.args.outs.now w.send_back.new.outs
          (w.in_ok-send_back-in-Ok.ensures ∙ (ap (λ es. es ++ sends (sent_to c.args.from w.in-Ok.answer)) w.in_ok-say_lines-in-Ok.ensures
          ∙ append_assoc (effects_of c.args.outs.now) (says_of c.told.new.out) (sends (sent_to c.args.from w.in-Ok.answer)))))))
      | in-Err-Stopped+in_ok-say_lines-in-Err-Stopped w ↦ subst (λ r. OnOk r (Takes o (other_here c.args.from (message.Told c.args.m.now)) (by_outs c.match-told.outs c.args.self.now) true)) (sym w.result-is) tt
      | in-Err-Memory w ↦ subst (λ r. OnOk r (Takes o (other_here c.args.from (message.Told c.args.m.now)) (by_outs c.match-told.outs c.args.self.now) true)) (sym w.result-is) tt
    ]

pub returns-clause-halted : goal.returns-clause-halted
returns-clause-halted g c =
    let o = g.O.ObjectStore in
    let file = g.D.Disk.file c.args.disk.now in
    let left = g.D.Disk.file c.told.new.disk in
    let now : Kept g.row.O.Denot = record { services = c.told.new.self; coord = c.self.inside.coord; records = c.self.inside.records } in
    let by_outs : List Outgoing → Kept g.row.O.Denot → Call g.row.O.Denot =
    λ outs k. record { old = k; new = now; file = file; left = left; before = c.args.outs.now; after = outs } in
    elim c.match-told.branch [
      | in-Ok+in_ok-say_lines-in-Ok+in_ok-send_back-in-Ok w ↦ λ halted. let never = sym w.result-is ∙ halted in absurd (cc never)
      | in-Err-Stopped+in_ok-say_lines-in-Err-Stopped w ↦ λ halted.
          subst (λ outs. Halts o (λ n h. outs_of (other_here c.args.from (message.Told c.args.m.now) n h)) (by_outs outs c.args.self.now)) (sym w.outs-is)
          (subst (λ k. Halts o (λ n h. outs_of (other_here c.args.from (message.Told c.args.m.now) n h)) (by_outs w.say_lines-in-Err-Stopped.new.outs k)) c.self.view_is
          (λ n h stands. handled_halts o g.met.O.ObjectStore.stays c.self.inside.services c.told.new.self c.self.inside.coord c.self.inside.records file left c.new-lines.result c.told.new.out c.new-lines.ensures (message.Told c.args.m.now) c.args.from c.told.ensures.leaves n h stands
          (told_states n h.disk h.parts c.args.from c.args.m.now) (w.in-Err-Stopped.ensures.stopped (ap Err w.in-Err-Stopped.field-0-is)) c.args.outs.now w.say_lines-in-Err-Stopped.new.outs w.in_ok-say_lines-in-Err-Stopped.ensures))
      | in-Err-Memory w ↦ λ halted. let never = sym w.result-is ∙ halted in absurd (cc never)
    ]
