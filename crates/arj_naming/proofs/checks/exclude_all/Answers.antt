use Rattle.std.proofs.Common.{◌∙◌, ap, sym, drop, get_or, ◌+◌}
use Rattle.std.proofs.lemmas.List.{drop_more}
use Rattle.arj_naming.proofs.Marks.{exclude_more}
use Rattle.arj_protocol.specs.Confirm.{marked, without_stores}
use Rattle.arj_naming.proofs.checks.exclude_all.Goals as goal

pub loop-mark-preserved : goal.loop-mark-preserved
loop-mark-preserved c =
    let i = c.loop-mark.mark-index in
    let m = get_or c.args.excluded.now i (0, 0) in
    let rest = drop (i + 1) c.args.excluded.now in
    record {
      stores = ap (without_stores (marked c.args.x rest)) c.exclude_one.ensures.stores ∙ (sym (exclude_more c.args.x m rest c.loop-mark.entry.stores)
          ∙ (ap (λ ms. without_stores (marked c.args.x ms) c.loop-mark.entry.stores) (sym (drop_more c.args.excluded.now i (0, 0) c.loop-mark-test.true)) ∙ c.loop-mark.invariant.stores));
      servers = c.exclude_one.ensures.servers ∙ c.loop-mark.invariant.servers;
      nodes = λ are. c.exclude_one.ensures.nodes (c.loop-mark.invariant.nodes are);
    }
