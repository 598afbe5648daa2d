use Rattle.std.proofs.Common.{◌∙◌, ap, sym}
use Rattle.arj_model.specs.Actions.{acts}
use Rattle.arj_standing.proofs.Paths.{by_uid, named}
use Rattle.arj_standing.specs.Begun.{links}
use Rattle.arj_text.specs.Label.{name}
use Rattle.arj_last.specs.Told.{told_path}
use Rattle.arj_last.proofs.told.path_in.Goals as goal

pub returns-in-Ok : goal.returns-in-Ok
returns-in-Ok c = λ lines has.
    c.path_named.ensures ∙ named (acts lines) c.args.begun.now has (name c.in-Ok.label)
    ∙ ap (λ b. links (told_path (acts lines) b)) (sym c.in-Ok.is)

pub returns-in-Committing : goal.returns-in-Committing
returns-in-Committing c = λ lines has.
    c.path_named-in-Committing.ensures ∙ named (acts lines) c.args.begun.now has (name c.in-Committing.label)
    ∙ ap (λ b. links (told_path (acts lines) b)) (sym c.in-Committing.is)

pub returns-in-Committed : goal.returns-in-Committed
returns-in-Committed c = λ lines has.
    c.path_named-in-Committed.ensures ∙ named (acts lines) c.args.begun.now has (name c.in-Committed.label)
    ∙ ap (λ b. links (told_path (acts lines) b)) (sym c.in-Committed.is)

pub returns-in-Recovered : goal.returns-in-Recovered
returns-in-Recovered c = λ lines has.
    c.path_of.ensures ∙ by_uid (acts lines) c.args.begun.now has c.in-Recovered.action
    ∙ ap (λ b. links (told_path (acts lines) b)) (sym c.in-Recovered.is)
