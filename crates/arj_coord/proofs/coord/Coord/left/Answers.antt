use Rattle.std.proofs.Common.{ap, ◌∙◌}
use Rattle.std.proofs.lemmas.Result.{on_ok_weaker}
use Rattle.arj_coord.proofs.Lefts.{emptied, left_outs}
use Rattle.arj_protocol.specs.Coord.{Coord}
use Rattle.arj_protocol.specs.Effect.{Intent}
use Rattle.arj_protocol.specs.Order.{without_uid}
use Rattle.arj_coord.proofs.coord.Coord.left.Goals as goal

pub returns-clause-outs : goal.returns-clause-outs
returns-clause-outs c =
    let s = c.self.inside in
    let top = c.args.top in
    on_ok_weaker c.tell_let_go.result (λ is. left_outs top c.args.left c.args.intents.now c.args.self.now
    (record {
      tree = s.tree;
      labels = s.labels.entries;
      doings = s.doings;
      roots = s.roots.entries;
      telling =
          c.remove.new.self;
    }) c.args.outs.now c.remove_record.new.self c.tell_let_go.new.outs
    (emptied c.is_empty.result c.as_slice.result.now c.args.left.nodes c.if-not-is_empty.false c.is_empty.ensures (c.as_slice.ensures ∙ ap (λ (i : Intent). i.nodes) c.left.view_is))
    (ap (λ t. record { tree = s.tree; labels = s.labels.entries; doings = s.doings; roots = s.roots.entries; telling = t }) c.remove.ensures
    ∙ ap (λ (d : Coord). record d {
      telling =
          without_uid top d.telling;
    }) c.self.view_is) c.in_ok-remove_record.ensures is) c.tell_let_go.ensures
