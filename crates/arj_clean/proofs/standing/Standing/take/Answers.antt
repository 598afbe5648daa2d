use Rattle.std.proofs.Common.{◌<◌, ◌+◌, [], sym, subst}
use Rattle.arj_model.proofs.Read.{acts-append}
use Rattle.arj_model.specs.Actions.{acts}
use Rattle.arj_standing.specs.Begun.{AreBegun}
use Rattle.arj_clean.proofs.standing.Standing.take.Goals as goal

pub returns : goal.returns
returns c = λ lines h few.
    let line = c.args.line.now in
    record {
      begun = subst (λ us. AreBegun us c.begin.new.begun.items) (sym (acts-append [] lines line)) (c.in_ok-begin.ensures
          (acts lines) h.begun);
      changes = c.in_ok-take-2.ensures lines (subst (AreBegun (acts lines)) (sym c.as_slice-2.ensures.value) h.begun) h.changes (subst
          (λ n. n + 1 < 18446744073709551616) (sym h.changes.count) few);
      writes = c.in_ok-take.ensures lines (subst (AreBegun (acts lines)) (sym c.as_slice.ensures.value) h.begun) h.changes.count h.writes;
    }
