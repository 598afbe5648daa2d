use Rattle.std.proofs.Common.{◌∙◌, ap, sym, ◌++◌}
use Rattle.std.proofs.lemmas.Result.{on_ok_weaker}
use Rattle.arj_protocol.specs.Coord.{Coord}
use Rattle.arj_protocol.specs.Effect.{Did}
use Rattle.arj_asking.proofs.requests.ask_now.Goals as goal

pub returns-clause-part : goal.returns-clause-part
returns-clause-part c =
    on_ok_weaker c.send.result (λ sent. sent ∙ ap (λ (d : Did Coord). d.part) (c.in_ok-questions.ensures c.args.coord.now (sym c.tree.ensures)))
    c.send.ensures.part

pub returns-clause-outs : goal.returns-clause-outs
returns-clause-outs c =
    on_ok_weaker c.send.result (λ sent. sent ∙ ap (λ (d : Did Coord). c.args.outs.now ++ d.outs) (c.in_ok-questions.ensures c.args.coord.now (sym c.tree.ensures)))
    c.send.ensures.outs
