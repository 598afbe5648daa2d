use Rattle.std.proofs.Common.{◌∙◌, [], ap, sym, subst}
use Rattle.arj_naming.proofs.Quiet.{any_touched}
use Rattle.arj_naming.specs.Touched.{AreTouched, is_in_set}
use Rattle.arj_protocol.specs.Copy.{holds}
use Rattle.arj_protocol.specs.Named.{Named}
use Rattle.arj_protocol.specs.Naming.{has_locks}
use Rattle.arj_naming.proofs.part.Part.has_locks.Goals as goal

pub returns-in-Some : goal.returns-in-Some
returns-in-Some c =
    let u = c.args.action in
    let m = c.self.inside.objects.entries in
    c.any_holds.ensures
    ∙ (any_touched u (λ (o : Named). holds u o.rows) m c.in-Some.xs.now.keys c.self.invariant.sorted (subst (λ s. AreTouched u m (λ x. is_in_set x s)) (sym c.in-Some.ensures.value) (c.self.invariant.touched u)) (λ o apart. apart.rows)
    ∙ ap (has_locks u) c.self.view_is)

pub returns-in-None : goal.returns-in-None
returns-in-None c =
    let u = c.args.action in
    let m = c.self.inside.objects.entries in
    any_touched u (λ (o : Named). holds u o.rows) m [] c.self.invariant.sorted (subst (λ s. AreTouched u m (λ x. is_in_set x s)) (sym c.in-None.ensures.value) (c.self.invariant.touched u)) (λ o apart. apart.rows)
    ∙ ap (has_locks u) c.self.view_is
