use Rattle.std.proofs.Common.{◌≡◌, ◌∙◌, false, true, sym, ap, subst}
use Rattle.arj_world.specs.Stands.{AreSomeNodes}
use Rattle.arj_world.proofs.Tests.{idle_end, idle_next}
use Rattle.arj_world.proofs.world.World.is_quiet.Goals as goal

pub returns-then-not-idle : goal.returns-then-not-idle
returns-then-not-idle g c = λ header nodes are.
    let cores : c.deref-core-items.result.now ≡ c.args.self.now.cores =
    c.deref-core-items.ensures.value ∙ ap (λ k. k.cores) c.self.view_is in
    sym (c.loop-core.invariant header nodes are ∙ idle_next g.C.Core c.loop-core.core-index false c.core-item.result header c.deref-core-items.result.now nodes
    (subst (λ cs. AreSomeNodes g.C.Core header cs nodes) (sym cores) are) c.loop-core-test.true c.core-item.is c.if-not-idle.ensures)

pub loop-core-preserved : goal.loop-core-preserved
loop-core-preserved g c = λ header nodes are.
    let cores : c.deref-core-items.result.now ≡ c.args.self.now.cores =
    c.deref-core-items.ensures.value ∙ ap (λ k. k.cores) c.self.view_is in
    c.loop-core.invariant header nodes are ∙ idle_next g.C.Core c.loop-core.core-index true c.core-item.result header c.deref-core-items.result.now nodes
    (subst (λ cs. AreSomeNodes g.C.Core header cs nodes) (sym cores) are) c.loop-core-test.true c.core-item.is c.if-not-idle.ensures

pub returns : goal.returns
returns g c = λ header nodes are.
    let cores : c.deref-core-items.result.now ≡ c.args.self.now.cores =
    c.deref-core-items.ensures.value ∙ ap (λ k. k.cores) c.self.view_is in
    sym (c.loop-core.invariant header nodes are ∙ idle_end g.C.Core c.loop-core.core-index header c.deref-core-items.result.now nodes (subst (λ cs. AreSomeNodes g.C.Core header cs nodes) (sym cores) are) c.loop-core-test.false)
