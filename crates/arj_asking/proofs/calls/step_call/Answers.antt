use Rattle.std.proofs.Common.{◌≡◌, ◌∙◌, ap, sym, ◌++◌}
use Rattle.std.proofs.lemmas.Result.{on_ok_weaker}
use Rattle.arj_asking.proofs.Hears.{goes_on_so}
use Rattle.arj_bind.specs.Heard.{came_of}
use Rattle.arj_asking.proofs.calls.step_call.Goals as goal

pub returns-in-On-clause-part : goal.returns-in-On-clause-part
returns-in-On-clause-part c =
    on_ok_weaker c.go_on.result
    (λ went s next d caller has came idle. goes_on_so (λ t. c.go_on.new.coord ≡ t.part) c.in-On.steps s next c.args.coord.now d has (ap came_of (sym c.in-On.is) ∙ came) idle went)
    c.go_on.ensures.part

pub returns-in-On-clause-outs : goal.returns-in-On-clause-outs
returns-in-On-clause-outs c =
    on_ok_weaker c.go_on.result
    (λ went s next d caller has came idle. goes_on_so (λ t. c.go_on.new.outs ≡ c.args.outs.now ++ t.outs) c.in-On.steps s next c.args.coord.now d has (ap came_of (sym c.in-On.is) ∙ came) idle went)
    c.go_on.ensures.outs
