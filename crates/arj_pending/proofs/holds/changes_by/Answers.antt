use Rattle.std.proofs.Common.{◌≡◌, ◌∙◌, ap, sym}
use Rattle.std.proofs.lemmas.Result.{IfOk-weaker}
use Rattle.arj_model.specs.Actions.{acts}
use Rattle.arj_model.specs.CausePends.{changes}
use Rattle.arj_model.specs.CauseSpans.{act_by}
use Rattle.arj_pending.specs.Holds.{changes_by, number_by}
use Rattle.arj_pending.proofs.Holding.{holds_none, holds_some, number_is}
use Rattle.arj_pending.proofs.holds.changes_by.Goals as goal

pub returns-in-None : goal.returns-in-None
returns-in-None c = λ flags lines h.
    let u = c.args.action in
    sym (holds_none (λ n. changes lines n c.args.x) (act_by lines u) (sym (number_is (acts lines) c.args.standing.now.begun.items h.begun u)
    ∙ ap (number_by u) (sym c.as_slice.ensures.value) ∙ sym c.number_of.ensures ∙ c.in-None.is))

pub returns-in-Some : goal.returns-in-Some
returns-in-Some c = λ flags lines h.
    let u = c.args.action in
    let x = c.args.x in
    let top = c.in-Some.top in
    let by = holds_some (λ n. changes lines n x) (act_by lines u) top (sym (number_is (acts lines) c.args.standing.now.begun.items h.begun u)
    ∙ ap (number_by u) (sym c.as_slice.ensures.value) ∙ sym c.number_of.ensures ∙ c.in-Some.is) in
    IfOk-weaker c.changes.result (λ test. test ≡ changes lines top x) (λ test. test ≡ changes_by lines u x) (λ test e. e ∙ sym by)
    (c.changes.ensures flags lines h)
