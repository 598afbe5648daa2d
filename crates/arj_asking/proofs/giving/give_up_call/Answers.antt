use Rattle.std.proofs.Common.{◌≡◌, ◌++◌, ◌∙◌, ap}
use Rattle.std.proofs.lemmas.Result.{on_ok_weaker}
use Rattle.arj_asking.proofs.Ended.{given_up_fits}
use Rattle.arj_asking.proofs.Hears.{give_up_call_so, lost_lines}
use Rattle.arj_bind.specs.Heard.{came_of}
use Rattle.arj_bind.specs.Shown.{goal_of}
use Rattle.arj_protocol.specs.Ask.{actor}
use Rattle.arj_protocol.specs.Words.{Path}
use Rattle.arj_asking.proofs.giving.give_up_call.Goals as goal

pub step_call-requires : goal.step_call-requires
step_call-requires c =
    given_up_fits c.caller_of-caller.result c.args.steps (came_of c.in_ok-step.step) c.requires.node (c.caller_of-caller.ensures (ap goal_of c.in_ok-goal.ensures ∙ c.goal.ensures)) c.in_ok-step.ensures.came

pub returns-clause-part : goal.returns-clause-part
returns-clause-part c =
    let s = c.args.steps in
    on_ok_weaker c.step_call.result
    (λ steps d idle. give_up_call_so (λ t. c.step_call.new.coord ≡ t.part) s c.args.coord.now d c.gave_up.new.self (came_of c.in_ok-step.step)
    idle c.in_ok-step.ensures.came c.in_ok-step.ensures.part (λ next e came mid. steps s next e (c.caller_of-caller.ensures (ap goal_of c.in_ok-goal.ensures ∙ c.goal.ensures)) c.requires.room came mid))
    c.step_call.ensures.part

pub returns-clause-outs : goal.returns-clause-outs
returns-clause-outs c =
    let s = c.args.steps in
    on_ok_weaker c.step_call.result
    (λ steps d idle. lost_lines s c.args.coord.now d c.last.result c.node.result c.args.outs.now c.say_all_gave_up.new.outs c.step_call.new.outs
    (c.last.ensures ∙ ap (λ (p : Path). actor p) c.path.ensures) c.node.ensures idle c.in_ok-say_all_gave_up.ensures
    (give_up_call_so (λ t. c.step_call.new.outs ≡ c.say_all_gave_up.new.outs ++ t.outs) s c.args.coord.now d c.gave_up.new.self (came_of c.in_ok-step.step)
    idle c.in_ok-step.ensures.came c.in_ok-step.ensures.part (λ next e came mid. steps s next e (c.caller_of-caller.ensures (ap goal_of c.in_ok-goal.ensures ∙ c.goal.ensures)) c.requires.room came mid)))
    c.step_call.ensures.outs
