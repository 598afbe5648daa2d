use Rattle.std.proofs.Common.{◌≡◌, ◌∙◌, ◌++◌, [], ap, sym}
use Rattle.std.proofs.lemmas.List.{append-nil}
use Rattle.std.specs.Cmp.{nat_cmp_total}
use Rattle.std.specs.Map.{keys_of}
use Rattle.std.specs.Ordering.{nat_cmp}
use Rattle.arj_naming.proofs.Appended.{key_goes}
use Rattle.arj_naming.proofs.touched.numbers.Goals as goal

pub loop-x-preserved : goal.loop-x-preserved
loop-x-preserved c =
    let rest = keys_of c.next.new.self in
    ap (λ ks. ks ++ rest) c.in_ok-insert.ensures.keys
    ∙ key_goes nat_cmp nat_cmp_total c.loop-x.all.keys c.in-Some.x.now (keys_of c.loop-x.x-iterator) rest (keys_of c.args.objects.now.entries) c.loop-x.invariant (ap keys_of c.in-Some.ensures.steps) c.iter-x-items.ensures.ordered

pub returns-clause-all : goal.returns-clause-all
returns-clause-all c =
    let none : c.loop-x.x-iterator ≡ [] = c.in-None.ensures.steps.0 in
    sym (append-nil c.loop-x.all.keys) ∙ ((λ i. c.loop-x.all.keys ++ keys_of (sym none i)) ∙ c.loop-x.invariant)
