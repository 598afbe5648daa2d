use Rattle.std.proofs.Common.{◌≡◌, ◌∙◌, ◌||◌, ◌∷◌, map, sym}
use Rattle.arj_base.specs.Rows.{is_on}
use Rattle.arj_naming.specs.Touched.{any_of, test_at}
use Rattle.arj_protocol.specs.Named.{Named}
use Rattle.arj_protocol.specs.Server.{row_top}
use Rattle.arj_protocol.specs.Order.{at_number}
use Rattle.arj_law_store.proofs.store.Keys.{or_three}
use Rattle.arj_naming.proofs.touched.put_tops.Goals as goal

pub loop-x-preserved : goal.loop-x-preserved
loop-x-preserved c = λ u.
    let m = c.args.objects.now.entries in
    let t = (λ (o : Named). is_on (map row_top o.rows) u) in
    let x = c.in-Some.x.now in
    let next = c.next.new.self in
    let step : c.loop-x.x-iterator ≡ x ∷ next = c.in-Some.ensures.steps in
    let before = is_on c.loop-x.tops.keys u in
    (λ j. c.in_ok-insert_all.ensures u j || any_of t m next)
    ∙ ((λ j. (before || is_on (c.as_slice.ensures j) u) || any_of t m next)
    ∙ ((λ j. (before || c.in_ok-held.ensures u j) || any_of t m next)
    ∙ (sym (or_three before (test_at t (at_number x m)) (any_of t m next)) ∙ ((λ j. before || any_of t m (sym step j)) ∙ c.loop-x.invariant u))))
