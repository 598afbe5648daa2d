use Rattle.std.proofs.Common.{◌∙◌, ap, sym}
use Rattle.std.proofs.lemmas.Result.{on_ok_weaker}
use Rattle.arj_asking.proofs.Again.{again_keeps}
use Rattle.arj_coord.specs.Shown.{now_of}
use Rattle.arj_protocol.specs.Coord.{Coord}
use Rattle.arj_protocol.specs.Effect.{Did}
use Rattle.arj_asking.proofs.ticks.ask_again.Goals as goal

pub returns-clause-same : goal.returns-clause-same
returns-clause-same c =
    let old = c.args.coord.now in
    on_ok_weaker c.send.result
    (λ sent. ap (λ (d : Coord). d.doings) (sent ∙ ap (λ (d : Did Coord). d.part) (c.in_ok-questions.ensures old (sym c.tree-2.ensures))) ∙ again_keeps old (now_of c.in-Some.now.now))
    c.send.ensures.part
