use Rattle.std.proofs.Common.{◌∙◌, ap}
use Rattle.arj_model.specs.Actions.{acts}
use Rattle.arj_pending.specs.Commits.{commits_after, delivered_after, prepares_after}
use Rattle.arj_pending.proofs.Steps.{taken}
use Rattle.arj_pending.proofs.kept.Prepares.take.Goals as goal

pub returns : goal.returns
returns c = λ lines has place are.
    let line = c.args.line.now in
    let at = c.args.at in
    let others = c.in_ok-note_pends.ensures.others in
    taken c.args.flags.now lines line at c.args.self.now _ place are c.in_ok-note_pends.ensures.pends
    (c.in_ok-note_commits.ensures (acts lines) has ∙ ap (λ cs. commits_after (acts lines) at line.body cs.items) others.commits)
    (c.in_ok-note_prepare.ensures ∙ ap (λ ps. prepares_after at line.body ps.items) others.prepares)
    (c.delivered_behind-self.ensures ∙ ap (delivered_after line.event line.body) others.delivered)
