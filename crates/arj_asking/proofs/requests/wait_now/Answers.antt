use Rattle.std.proofs.lemmas.Result.{on_ok_weaker}
use Rattle.arj_asking.proofs.Calling.{wait_part, wait_outs}
use Rattle.arj_coord.specs.Shown.{now_of}
use Rattle.arj_asking.proofs.requests.wait_now.Goals as goal

pub returns-clause-part : goal.returns-clause-part
returns-clause-part c =
    on_ok_weaker c.wait.result
    (λ waits. wait_part (now_of c.args.now) c.args.action c.args.req c.args.coord.now c.ask_now.new.coord c.wait.new.self c.in_ok-ask_now.ensures.part waits)
    c.wait.ensures

pub returns-clause-outs : goal.returns-clause-outs
returns-clause-outs c =
    on_ok_weaker c.wait.result
    (λ waits. wait_outs (now_of c.args.now) c.args.action c.args.req c.args.coord.now c.args.outs.now c.ask_now.new.outs c.in_ok-ask_now.ensures.outs)
    c.wait.ensures
