use Rattle.std.proofs.Common.{◌<◌, ◌+◌, [], ◌∙◌, ap, sym, subst}
use Rattle.arj_model.proofs.Read.{acts-append}
use Rattle.arj_model.specs.Actions.{acts}
use Rattle.arj_standing.specs.Begun.{AreBegun}
use Rattle.arj_standing.specs.Doubts.{doubts_after}
use Rattle.arj_view_data.proofs.Tables.{doubts_more}
use Rattle.arj_view_data.proofs.standing.Standing.take.Goals as goal

pub returns : goal.returns
returns c = λ lines h few.
    let line = c.args.line.now in
    record {
      begun = subst (λ us. AreBegun us c.begin.new.begun.items) (sym (acts-append [] lines line)) (c.in_ok-begin.ensures (acts lines) h.begun);
      tables = c.in_ok-take_each.ensures.tables lines (subst (AreBegun (acts lines)) (sym c.as_slice.ensures.value) h.begun) h.tables;
      nodes = c.in_ok-take_each.ensures.nodes ∙ h.nodes;
      doubts = c.in_ok-note_doubts.ensures ∙ ap (doubts_after line.body) h.doubts ∙ sym (doubts_more [] lines line);
      changes = c.in_ok-take.ensures lines (subst (AreBegun (acts lines)) (sym c.as_slice-2.ensures.value) h.begun) h.changes (subst (λ n. n + 1 < 18446744073709551616) (sym h.changes.count) few);
    }
