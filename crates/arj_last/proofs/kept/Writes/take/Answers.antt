use Rattle.std.proofs.Common.{◌∙◌, false, true}
use Rattle.arj_last.proofs.Longer.{called_under, on_more}
use Rattle.arj_last.specs.Groups.{items_of}
use Rattle.arj_last.proofs.kept.Writes.take.Goals as goal

pub returns : goal.returns
returns c = λ lines begun place has.
    let line = c.args.line.now in
    let bs = c.args.begun.now in
    let at = c.args.at in
    let old = c.args.self.now in
    record {
      on = λ y. c.in_ok-note_write.ensures y ∙ on_more lines line bs y at (items_of old.on y) begun place (has.on y);
      by_top = λ n. c.in_ok-note_called.ensures n
          ∙ called_under false lines line bs n at
          (items_of old.by_top n) c.called_in-called.result begun place c.called_in-called.ensures (has.by_top n);
      by_root = λ n. c.in_ok-note_called-2.ensures n
          ∙ called_under true lines line bs n at
          (items_of old.by_root n) c.called_in-called.result begun place c.called_in-called.ensures (has.by_root n);
    }
