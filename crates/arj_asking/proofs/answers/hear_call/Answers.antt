use Rattle.std.proofs.Common.{◌≡◌, ◌++◌, ◌∙◌, ap}
use Rattle.std.proofs.lemmas.Result.{on_ok_weaker}
use Rattle.arj_asking.proofs.Ended.{heard_fits}
use Rattle.arj_asking.proofs.Hears.{hear_call_so}
use Rattle.arj_bind.specs.Heard.{came_of, heard_in}
use Rattle.arj_bind.specs.Shown.{goal_of}
use Rattle.arj_protocol.specs.Coord.{keeping_of, root_at}
use Rattle.arj_protocol.specs.Tree.{root_of}
use Rattle.arj_asking.proofs.answers.hear_call.Goals as goal

pub step_call-requires : goal.step_call-requires
step_call-requires c =
    let s = c.args.steps in
    heard_fits c.caller_of-caller.result s c.args.delivery.free (keeping_of s.x (root_at (root_of s.path) c.args.coord.now)) (heard_in c.args.delivery.from c.args.delivery.message.value s) (came_of c.in_ok-step.step) c.requires.node (c.caller_of-caller.ensures (ap goal_of c.in_ok-goal.ensures ∙ c.goal.ensures))
    c.requires.meant c.in_ok-step.ensures.came

pub returns-clause-part : goal.returns-clause-part
returns-clause-part c =
    let s = c.args.steps in
    on_ok_weaker c.step_call.result
    (λ steps d idle free. hear_call_so (λ t. c.step_call.new.coord ≡ t.part) s c.args.delivery.free (heard_in c.args.delivery.from c.args.delivery.message.value s) c.args.coord.now d c.answered.new.self (came_of c.in_ok-step.step)
    idle free c.in_ok-step.ensures.came c.in_ok-step.ensures.part (λ next e came mid. steps s next e (c.caller_of-caller.ensures (ap goal_of c.in_ok-goal.ensures ∙ c.goal.ensures)) c.requires.room came mid))
    c.step_call.ensures.part

pub returns-clause-outs : goal.returns-clause-outs
returns-clause-outs c =
    let s = c.args.steps in
    on_ok_weaker c.step_call.result
    (λ steps d idle free. hear_call_so (λ t. c.step_call.new.outs ≡ c.args.outs.now ++ t.outs) s c.args.delivery.free (heard_in c.args.delivery.from c.args.delivery.message.value s) c.args.coord.now d c.answered.new.self (came_of c.in_ok-step.step)
    idle free c.in_ok-step.ensures.came c.in_ok-step.ensures.part (λ next e came mid. steps s next e (c.caller_of-caller.ensures (ap goal_of c.in_ok-goal.ensures ∙ c.goal.ensures)) c.requires.room came mid))
    c.step_call.ensures.outs
