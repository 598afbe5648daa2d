use Rattle.arj_base.specs.declared.uid.Uid.{Uid}
use Rattle.arj_naming.specs.Touched.{AreTouched, is_touched}
use Rattle.arj_naming.proofs.touched.tidy_all.Given as goal

-- what each action has touched is found
abbrev pub invariant-loop-action : goal.invariant-loop-action
invariant-loop-action l =
    (u : Uid) → AreTouched u l.objects.entries (is_touched l.fn.touched.entries u) →
    AreTouched u l.objects.entries (is_touched l.touched.entries u)
