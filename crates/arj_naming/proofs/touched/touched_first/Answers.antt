use Rattle.std.proofs.Common.{◌≡◌, ◌∙◌, ◌∷◌, ◌||◌, [], rules, true, map, ap, sym, subst}
use Rattle.arj_base.specs.Rows.{is_on}
use Rattle.arj_naming.proofs.Indexed.{next_first, passes_in}
use Rattle.arj_naming.proofs.Listed.{or_nothing}
use Rattle.arj_naming.proofs.Quiet.{or_true}
use Rattle.arj_naming.specs.Touched.{is_in, is_touched, test_at}
use Rattle.arj_protocol.specs.Named.{Named}
use Rattle.arj_protocol.specs.Server.{row_top}
use Rattle.arj_naming.proofs.touched.touched_first.Goals as goal

pub loop-x-init : goal.loop-x-init
loop-x-init c = λ u q on.
    let items : c.into_iter-x-iterator.result ≡ c.in_ok-all.all.keys = search rules in
    (λ i. is_touched c.new-touched.result.entries u q || (ap (λ ks. is_in ks q) (items ∙ c.in_ok-all.ensures.all) ∙ passes_in (λ (o : Named). is_on (map row_top o.rows) u) c.args.objects.now.entries q on) i)
    ∙ or_true (is_touched c.new-touched.result.entries u q)

pub loop-x-preserved : goal.loop-x-preserved
loop-x-preserved c = λ u q on.
    let x = c.in-Some.x.now in
    let next = c.next.new.self in
    let step : c.loop-x.x-iterator ≡ x ∷ next = c.in-Some.ensures.steps in
    let m = c.args.objects.now.entries in
    next_first (λ v (o : Named). is_on (map row_top o.rows) v) m x next c.loop-x.touched.entries c.touch_tops.new.touched.entries u
    (λ p there. subst (λ xs. (is_touched c.loop-x.touched.entries u p || is_in xs p) ≡ true) step (c.loop-x.invariant u p there)) (c.in_ok-touch_tops.ensures.here u) c.in_ok-touch_tops.ensures.kept q on

pub returns-clause-touched : goal.returns-clause-touched
returns-clause-touched c = λ u x o at on.
    let none : c.loop-x.x-iterator ≡ [] = c.in-None.ensures.steps.0 in
    let acts = c.loop-x.touched.entries in
    sym (or_nothing (is_touched acts u x)) ∙ ((λ i. is_touched acts u x || is_in (sym none i) x) ∙ c.loop-x.invariant u x ((λ i. test_at (λ (n : Named). is_on (map row_top n.rows) u) (at i)) ∙ on))
