use Rattle.std.proofs.Common.{◌≡◌, Some, slice_get}
use Rattle.arj_model.specs.Actions.{acts}
use Rattle.arj_check.proofs.places.survives_at.Goals as goal
use Rattle.std.proofs.Common.{◌∙◌, ap, sym, None}
use Rattle.arj_check.proofs.Paths.{no_path}

pub returns-in-None : goal.returns-in-None
returns-in-None c = λ lines p has hp before.
    let none : Some p ≡ None =
    sym hp ∙ no_path (acts lines) c.args.number (ap (λ xs. slice_get xs c.args.number) (sym has.list) ∙ sym c.kept.ensures ∙ c.in-None.is) in absurd (cc none)

pub returns-in-Some : goal.returns-in-Some
returns-in-Some c =
    λ lines p has hp before. c.survives.ensures lines p has (ap (λ xs. slice_get xs c.args.number) (sym has.list) ∙ sym c.kept.ensures ∙ c.in-Some.is) hp before
