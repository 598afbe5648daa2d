use Rattle.std.proofs.Common.{◌≡◌, ◌+◌, ◌-◌, Some, None, true, false, arith}
use Rattle.std.specs.Prelude.{slice_get}
use Rattle.arj_standing.specs.Node.{IsTable}
use Rattle.arj_view_data.specs.Texts.{is_node}
use Rattle.arj_view_data.proofs.Tables.{match_more, no_node, one_node}
use Rattle.arj_view_data.proofs.standing.table_in.Goals as goal

pub returns : goal.returns
returns c = λ lines are count.
    let at : c.args.node ≡ (c.from.result - 1) + 1 = omega (arith, c.from.ensures, c.if-node-eq0.false) in
    match_more c.table_at.result (slice_get c.args.tables.now (c.from.result - 1) ≡ None) (is_node c.args.node ≡ false) (λ t. slice_get c.args.tables.now (c.from.result - 1) ≡ Some t.now) (λ t. (is_node c.args.node ≡ true) × IsTable c.args.node lines t.now)
    (λ none. no_node c.args.node (c.from.result - 1) c.args.tables.now at count none)
    (λ t some. one_node c.args.node (c.from.result - 1) lines c.args.tables.now t.now at count are some) c.table_at.ensures
