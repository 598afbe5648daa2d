use Rattle.std.proofs.Common.{◌∙◌, ◌+◌, ap, sym, Err}
use Rattle.arj_parts.proofs.Again.{restart_does, restart_halts}
use Rattle.arj_parts.specs.Begun.{raised}
use Rattle.arj_node.specs.Acting.{parts_again}
use Rattle.arj_parts.proofs.beginnings.restart.Goals as goal

pub returns-in_ok-send_again-in-Ok-clause-done : goal.returns-in_ok-send_again-in-Ok-clause-done
returns-in_ok-send_again-in-Ok-clause-done g c = λ header d nodes rests.
    let file = g.D.Disk.file c.back.new.disk in
    let stands = c.in-Ok.ensures.done d rests in
    restart_does g.O.ObjectStore header c.args.number d c.args.outs.now c.say_lines.new.outs c.send_again.new.outs c.new-lines.result c.back.new.lines c.new-lines.ensures c.in_ok-say_lines-in-Ok.ensures c.in-Ok.parts file c.in-Ok.inc
    (c.in-Ok.ensures.inc ∙ ap (λ i. i + 1) (sym rests.disk.inc)) stands (c.in-Ok.ensures.lines d rests)
    (c.in_ok-send_again-in-Ok.ensures header file (record { disk = raised d; parts = parts_again c.args.number d }) nodes stands)

pub returns-in_ok-say_lines-in-Err-Stopped-clause-halted : goal.returns-in_ok-say_lines-in-Err-Stopped-clause-halted
returns-in_ok-say_lines-in-Err-Stopped-clause-halted g c = λ _ header d rests.
    restart_halts g.O.ObjectStore header c.args.number d c.args.outs.now c.say_lines-in-Err-Stopped.new.outs c.say_lines-in-Err-Stopped.new.outs c.new-lines.result c.back.new.lines c.new-lines.ensures c.in_ok-say_lines-in-Err-Stopped.ensures
    (g.D.Disk.file c.back.new.disk) (c.in-Err-Stopped.ensures.stopped (ap Err c.in-Err-Stopped.field-0-is) d rests)
