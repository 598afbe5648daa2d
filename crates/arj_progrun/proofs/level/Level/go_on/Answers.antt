-- the list that is gone on with
use Rattle.std.proofs.Common.{◌∙◌, ap, sym}
use Rattle.arj_prog.specs.Listing.{joined}
use Rattle.arj_progrun.specs.Client.{leaves}
use Rattle.arj_progrun.specs.Levels.{level_of, rest_of}
use Rattle.arj_progrun.proofs.Stacks.{first_branch, pushed, second_branch}
use Rattle.arj_progrun.proofs.level.Level.go_on.Goals as goal

pub returns-in_ok-push : goal.returns-in_ok-push
returns-in_ok-push c =
    ap (λ r. leaves r (level_of c.args.self.now))
    (ap rest_of c.in_ok-push.ensures.items ∙ pushed c.args.self.now.rest.items c.as_slice.result
    ∙ ap (λ l. joined l (rest_of c.args.self.now.rest.items))
    (c.as_slice.ensures ∙ first_branch c.args.statement.now c.args.answer.now c.in-If.x c.in-If.op c.in-If.wanted
    c.in-If.then c.in-If.other c.in-If.is (sym c.in_ok-is_answer.ensures ∙ c.if-branch.true)))

pub returns-in_ok-push-2 : goal.returns-in_ok-push-2
returns-in_ok-push-2 c =
    ap (λ r. leaves r (level_of c.args.self.now))
    (ap rest_of c.in_ok-push-2.ensures.items ∙ pushed c.args.self.now.rest.items c.as_slice-else-branch.result
    ∙ ap (λ l. joined l (rest_of c.args.self.now.rest.items))
    (c.as_slice-else-branch.ensures
    ∙ second_branch c.args.statement.now c.args.answer.now c.in-If.x c.in-If.op c.in-If.wanted c.in-If.then c.in-If.other c.in-If.is
    (sym c.in_ok-is_answer.ensures ∙ c.if-branch.false)))
