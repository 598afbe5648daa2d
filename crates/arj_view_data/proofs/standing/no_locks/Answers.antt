use Rattle.std.proofs.Common.{◌≡◌, ◌+◌, [], ◌∷◌, ◌∙◌, ap, sym, subst, length, length-append, arith}
use Rattle.arj_standing.specs.Node.{IsTable}
use Rattle.arj_view_data.specs.Behind.{AreTables}
use Rattle.arj_view_data.proofs.Tables.{tables_push}
use Rattle.arj_view_data.proofs.standing.no_locks.Goals as goal

pub loop-node-preserved : goal.loop-node-preserved
loop-node-preserved c =
    let items = c.in_ok-push.ensures.items in
    let more : length c.push.new.self.items ≡ length c.loop-node.tables.items + 1 =
    ap length items ∙ length-append c.loop-node.tables.items (c.new.result ∷ []) in
    record {
      tables = subst (AreTables []) (sym items) (tables_push [] c.loop-node.tables.items c.new.result c.loop-node.invariant.tables (subst (λ n. IsTable n [] c.new.result) (sym c.loop-node.invariant.count) c.new.ensures));
      count = omega (arith, c.loop-node.invariant.count, more);
    }
