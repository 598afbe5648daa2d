use Rattle.std.proofs.Common.{◌≡◌, ◌∙◌, ap, sym, refl}
use Rattle.arj_model.specs.Actions.{acts}
use Rattle.arj_model.specs.Table.{table_step, up_step}
use Rattle.arj_standing.proofs.Tables.{table_more, up_more}
use Rattle.arj_standing.proofs.node.NodeLocks.take.Goals as goal

pub returns-clause-table : goal.returns-clause-table
returns-clause-table c = λ lines begun is. record {
  node = refl;
  up = c.up_after-up.ensures ∙ ap (up_step c.args.self.now.node c.args.line.now.event c.args.line.now.body) is.up ∙ sym (up_more c.args.self.now.node 0 lines c.args.line.now);
  rows =
      c.exchange.ensures ∙ c.in_ok-new.ensures (acts lines) begun
      ∙ (λ i. table_step c.args.self.now.node (acts lines) (is.up i) c.args.line.now.event c.args.line.now.body (is.rows i))
      ∙ sym (table_more c.args.self.now.node lines c.args.line.now);
}
