use Rattle.std.proofs.Common.{◌≡◌, ◌∙◌, ap, ◌++◌}
use Rattle.std.proofs.lemmas.Result.{on_ok_weaker}
use Rattle.arj_asking.specs.Sent.{waits_now}
use Rattle.arj_protocol.specs.Ask.{actor}
use Rattle.arj_protocol.specs.Coord.{Calling, Coord}
use Rattle.arj_protocol.specs.Effect.{Did}
use Rattle.arj_protocol.specs.Words.{Path}
use Rattle.arj_asking.proofs.calls.go_on.Goals as goal

pub returns-clause-outs : goal.returns-clause-outs
returns-clause-outs c =
    let s = c.args.steps in
    let act : c.last-action.result ≡ actor s.path = c.last-action.ensures ∙ ap (λ (p : Path). actor p) c.path.ensures in
    on_ok_weaker c.wait_now.result
    (λ sent. sent ∙ (λ i. c.args.outs.now ++ (let d : Did Coord =
    waits_now (act i) (c.request_number-req.ensures i) (Calling s) c.args.coord.now in d.outs)))
    c.wait_now.ensures.outs
