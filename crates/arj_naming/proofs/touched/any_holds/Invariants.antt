use Rattle.std.proofs.Common.{◌≡◌}
use Rattle.arj_naming.specs.Touched.{any_of}
use Rattle.arj_protocol.specs.Copy.{holds}
use Rattle.arj_protocol.specs.Named.{Named}
use Rattle.arj_naming.proofs.touched.any_holds.Given as goal

-- what is left answers the same as the whole
abbrev pub invariant-loop-x : goal.invariant-loop-x
invariant-loop-x l =
    any_of (λ (o : Named). holds l.action o.rows) l.objects.entries l.x-iterator ≡ any_of (λ (o : Named). holds l.action o.rows) l.objects.entries l.xs.keys
