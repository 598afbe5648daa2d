-- line after line
use Rattle.std.proofs.Common.{◌∙◌, ◌∷◌, ◌+◌, ap, sym, drop}
use Rattle.std.proofs.lemmas.List.{drop_more}
use Rattle.arj_progrun.specs.Kept.{standing_of}
use Rattle.arj_progrun.specs.Schedule.{lines_heard}
use Rattle.arj_progrun.proofs.schedule.Schedule.hear.Goals as goal

pub loop-line-preserved : goal.loop-line-preserved
loop-line-preserved c =
    let lines = c.args.lines.now in
    let i = c.loop-line.line-index in
    let step = drop_more lines i c.line-item.result c.loop-line-test.true ∙ ap (λ t. t ∷ drop (i + 1) lines) (sym c.line-item.is) in
    record {
      heard = ap (λ s. lines_heard c.args.by (drop (i + 1) lines) s) c.in_ok-hear_line.ensures.heard
          ∙ sym (ap (λ ls. lines_heard c.args.by ls (standing_of c.loop-line.self)) step) ∙ c.loop-line.invariant.heard;
      within = λ turn all. c.in_ok-hear_line.ensures.within turn (c.loop-line.invariant.within turn all);
      nodes = c.in_ok-hear_line.ensures.nodes ∙ c.loop-line.invariant.nodes;
      long = c.in_ok-hear_line.ensures.long ∙ c.loop-line.invariant.long;
    }
