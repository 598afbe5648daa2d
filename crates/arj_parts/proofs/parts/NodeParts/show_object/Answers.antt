use Rattle.std.proofs.Common.{ap, subst, Err}
use Rattle.arj_parts.specs.Acted.{ShowsObject}
use Rattle.arj_parts.specs.Calls.{Halts}
use Rattle.arj_parts.specs.Kept.{Kept}
use Rattle.arj_parts.proofs.Showing.{show_cut, shown_so}
use Rattle.arj_protocol.specs.Step.{show_outs}
use Rattle.arj_parts.proofs.parts.NodeParts.show_object.Goals as goal

pub returns-in_ok-say_lines-in-Ok-clause-done : goal.returns-in_ok-say_lines-in-Ok-clause-done
returns-in_ok-say_lines-in-Ok-clause-done g c =
    let o = g.O.ObjectStore in
    let file = g.D.Disk.file c.args.disk.now in
    let left = g.D.Disk.file c.show.new.disk in
    let p : Kept g.row.O.Denot =
    record { services = c.self.inside.services; coord = c.self.inside.coord; records = c.self.inside.records } in
    subst (λ k. ShowsObject o c.args.x (record {
      old = k;
      new = k;
      file = file;
      left = left;
      before = c.args.outs.now;
      after =
          c.say_lines.new.outs;
    })) c.self.view_is
    (λ n h stands. shown_so o g.met.O.ObjectStore.stays p c.args.x file left c.show.ensures.files c.new-lines.result c.show.new.out c.new-lines.ensures n h stands c.args.outs.now c.say_lines.new.outs
    c.in_ok-say_lines-in-Ok.ensures c.in-Ok.ensures.done)

pub returns-in_ok-say_lines-in-Err-Stopped-clause-halted : goal.returns-in_ok-say_lines-in-Err-Stopped-clause-halted
returns-in_ok-say_lines-in-Err-Stopped-clause-halted g c = λ _.
    let o = g.O.ObjectStore in
    let file = g.D.Disk.file c.args.disk.now in
    let left = g.D.Disk.file c.show.new.disk in
    let p : Kept g.row.O.Denot =
    record { services = c.self.inside.services; coord = c.self.inside.coord; records = c.self.inside.records } in
    subst (λ k. Halts o (λ n h. show_outs n c.args.x h.disk) (record {
      old = k;
      new = k;
      file = file;
      left = left;
      before =
          c.args.outs.now;
      after = c.say_lines-in-Err-Stopped.new.outs;
    })) c.self.view_is
    (λ n h stands. show_cut o g.met.O.ObjectStore.stays p c.args.x file left c.show.ensures.files c.new-lines.result c.show.new.out c.new-lines.ensures n h stands c.args.outs.now c.say_lines-in-Err-Stopped.new.outs
    c.in_ok-say_lines-in-Err-Stopped.ensures (c.in-Err-Stopped.ensures.stopped (ap Err c.in-Err-Stopped.field-0-is)))
