use Rattle.std.proofs.Common.{◌≡◌, ◌∙◌, ◌∷◌, [], sym, subst}
use Rattle.std.proofs.lemmas.Map.Keys.{sorted_tail}
use Rattle.std.specs.List.Sorted.{IsStrictlySortedBy}
use Rattle.std.specs.Ordering.{nat_cmp}
use Rattle.arj_naming.proofs.Quiet.{next_changed}
use Rattle.arj_naming.specs.Objects.{changed_by}
use Rattle.arj_naming.specs.Touched.{changed_at, is_in}
use Rattle.arj_protocol.specs.Order.{at_number}
use Rattle.arj_naming.proofs.touched.change_each.Goals as goal

pub loop-x-preserved : goal.loop-x-preserved
loop-x-preserved c =
    let f = changed_by c.args.change in
    let x = c.in-Some.x.now in
    let next = c.next.new.self in
    let step : c.loop-x.x-iterator ≡ x ∷ next = c.in-Some.ensures.steps in
    let sorted = subst (IsStrictlySortedBy nat_cmp) step c.loop-x.invariant.sorted in
    record {
      at = λ q. next_changed f x next c.loop-x.objects.entries c.change_at.new.objects.entries sorted c.change_at.ensures.at q ∙ ((λ i. changed_at f (is_in (sym step i) q) (at_number q c.loop-x.objects.entries)) ∙ c.loop-x.invariant.at q);
      keys = c.change_at.ensures.keys ∙ c.loop-x.invariant.keys;
      sorted = sorted_tail nat_cmp x next sorted;
    }

pub returns : goal.returns
returns c =
    let f = changed_by c.args.change in
    let none : c.loop-x.x-iterator ≡ [] = c.in-None.ensures.steps.0 in
    record {
      at = λ q. (λ i. changed_at f (is_in (sym none i) q) (at_number q c.loop-x.objects.entries)) ∙ c.loop-x.invariant.at q;
      keys = c.loop-x.invariant.keys;
    }
