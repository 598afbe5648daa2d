use Rattle.std.proofs.Common.{rules, ◌≡◌, ◌++◌, ◌∷◌, [], ◌∙◌, ap, sym, subst, length}
use Rattle.arj_journal.specs.declared.body.Body.TheVariants as body
use Rattle.arj_model.specs.Actions.{acts_after}
use Rattle.arj_standing.specs.Begun.{AreBegun, links_above}
use Rattle.arj_standing.proofs.Paths.{one_more}
use Rattle.arj_standing.proofs.begun.begin.Goals as goal

pub returns-in_ok-insert-in-Began : goal.returns-in_ok-insert-in-Began
returns-in_ok-insert-in-Began c = λ us has.
    let l = c.in-Began.label in
    let k = c.in-Began.kind in
    let u = c.in-Began.uid in
    let p = c.in-Began.parent in
    let bs = c.args.begun.now.items in
    let n = c.len-id.result in
    let many : n ≡ length bs = search rules in
    let above : c.path_above.result.now ≡ links_above k p bs = c.path_above.ensures ∙ ap (links_above k p) c.deref.ensures.value in
    let path = c.in_ok-path-in-Began.ensures ∙ (λ i. above i ++ record { id = n; uid = u; serial = c.is_serial.ensures i } ∷ []) in
    subst (λ b. AreBegun (acts_after us b) c.insert.new.self.items) (sym c.in-Began.is)
    (subst (AreBegun (acts_after us (body.Began l k u p))) (sym c.in_ok-insert-in-Began.ensures.items) (one_more us bs has n many l k u p c.in_ok-path-in-Began.path path))
