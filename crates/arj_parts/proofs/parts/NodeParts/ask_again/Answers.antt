use Rattle.std.proofs.Common.{◌∙◌, ◌++◌, ap, subst, map}
use Rattle.std.proofs.lemmas.Result.{on_ok_weaker}
use Rattle.arj_node.specs.Outgoing.{effects_of}
use Rattle.arj_parts.specs.Acted.{Ticks}
use Rattle.arj_parts.specs.Kept.{Kept}
use Rattle.arj_parts.proofs.Ticking.{sent_so, ticks}
use Rattle.arj_protocol.specs.Node.{query_about}
use Rattle.arj_parts.proofs.parts.NodeParts.ask_again.Goals as goal

pub returns : goal.returns
returns g c =
    let p : Kept g.row.O.Denot =
    record { services = c.self.inside.services; coord = c.self.inside.coord; records = c.self.inside.records } in
    let now : Kept g.row.O.Denot = record { services = p.services; coord = c.again_all.new.coord; records = p.records } in
    on_ok_weaker c.ask_about.result
    (λ asked file. subst (λ k. Ticks g.O.ObjectStore (record {
      old = k;
      new = now;
      file = file;
      left = file;
      before =
          c.args.outs.now;
      after = c.ask_about.new.outs;
    })) c.self.view_is
    (λ n h stands. ticks g.O.ObjectStore n p file h stands c.again_all.new.coord c.tolds_again.new.outs c.in_ok-held.held c.args.outs.now c.tell.new.outs c.ask_about.new.outs c.in_ok-again_all.ensures.part
    (sent_so p.coord c.again_all.new.coord c.telling.result.now c.new-effects.result c.again_all.new.outs c.tolds_again.new.outs c.new-effects.ensures c.in_ok-again_all.ensures.part c.in_ok-again_all.ensures.outs c.telling.ensures c.in_ok-tolds_again.ensures)
    (c.in_ok-held.ensures file h.disk stands.services p.coord) c.in_ok-tell.ensures
    (asked ∙ ap (λ us. effects_of c.tell.new.outs ++ map query_about us) c.as_slice.ensures)))
    c.ask_about.ensures
