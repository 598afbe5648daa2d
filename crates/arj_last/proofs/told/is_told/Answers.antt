use Rattle.std.proofs.Common.{◌≡◌, ◌∙◌, ◌&&◌, ◌||◌, ◌==◌, Some, ap, not, sym}
use Rattle.arj_changes.specs.Lines.{root_number}
use Rattle.arj_changes.specs.Paths.{top_link}
use Rattle.arj_model.specs.Actions.{acts}
use Rattle.arj_standing.specs.Begun.{links}
use Rattle.arj_last.proofs.Tells.{its_top}
use Rattle.arj_last.specs.Told.{told_path, wrote_in}
use Rattle.arj_last.proofs.told.is_told.Goals as goal

pub returns-then-not-is_committed : goal.returns-then-not-is_committed
returns-then-not-is_committed c = λ lines body h is.
    let p = told_path (acts lines) body in
    let x = c.args.x in
    let top = c.in-Some.top in
    let e : top_link (links p) ≡ Some top = ap top_link (sym is) ∙ sym c.top_link.ensures ∙ c.in-Some.is in
    let rest = not (root_number top.id (links p) == top.id) || wrote_in lines top.id x in
    let no = sym c.is_committed.ensures ∙ c.if-not-is_committed.true in
    sym (its_top lines c.args.standing.now.changes h.changes p x top e ∙ (λ j. no j && rest))

pub returns : goal.returns
returns c = λ lines body h is.
    let p = told_path (acts lines) body in
    let x = c.args.x in
    let top = c.in-Some.top in
    let e : top_link (links p) ≡ Some top = ap top_link (sym is) ∙ sym c.top_link.ensures ∙ c.in-Some.is in
    let rest = not (root_number top.id (links p) == top.id) || wrote_in lines top.id x in
    let yes = sym c.is_committed.ensures ∙ c.if-not-is_committed.false in
    c.either.ensures
    ∙ (λ j. (c.moves_others-moves.ensures ∙ ap (λ q. not (root_number top.id q == top.id)) is) j || c.has_written-wrote.ensures lines h j)
    ∙ sym (its_top lines c.args.standing.now.changes h.changes p x top e ∙ (λ j. yes j && rest))
