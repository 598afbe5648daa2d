use Rattle.std.proofs.Common.{◌≡◌, ◌∙◌, ◌||◌, ◌∷◌, sym}
use Rattle.std.specs.List.{list_any}
use Rattle.arj_base.specs.Rows.{is_on}
use Rattle.arj_naming.specs.Touched.{any_of, test_at}
use Rattle.arj_protocol.specs.Named.{Named}
use Rattle.arj_protocol.specs.Naming.{loses}
use Rattle.arj_protocol.specs.Order.{at_number}
use Rattle.arj_law_store.proofs.store.Keys.{or_three}
use Rattle.arj_naming.proofs.touched.all_losers.Goals as goal

pub loop-x-preserved : goal.loop-x-preserved
loop-x-preserved c = λ act.
    let m = c.args.objects.now.entries in
    let t = (λ (o : Named). list_any (loses c.args.action act) o.rows) in
    let x = c.in-Some.x.now in
    let next = c.next.new.self in
    let step : c.loop-x.x-iterator ≡ x ∷ next = c.in-Some.ensures.steps in
    let before = is_on c.loop-x.losers.keys act in
    (λ j. c.in_ok-insert_all.ensures act j || any_of t m next)
    ∙ ((λ j. (before || is_on (c.as_slice.ensures j) act) || any_of t m next)
    ∙ ((λ j. (before || c.in_ok-holders.ensures act j) || any_of t m next)
    ∙ (sym (or_three before (test_at t (at_number x m)) (any_of t m next)) ∙ ((λ j. before || any_of t m (sym step j)) ∙ c.loop-x.invariant act))))
