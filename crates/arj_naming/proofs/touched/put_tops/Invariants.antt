use Rattle.std.proofs.Common.{◌≡◌, ◌||◌, map}
use Rattle.arj_base.specs.Rows.{is_on}
use Rattle.arj_base.specs.declared.uid.Uid.{Uid}
use Rattle.arj_naming.specs.Touched.{any_of}
use Rattle.arj_protocol.specs.Named.{Named}
use Rattle.arj_protocol.specs.Server.{row_top}
use Rattle.arj_naming.proofs.touched.put_tops.Given as goal

-- with the objects that are left the set has the tops of all, and those before
abbrev pub invariant-loop-x : goal.invariant-loop-x
invariant-loop-x l =
    (u : Uid) → (is_on l.tops.keys u || any_of (λ (o : Named). is_on (map row_top o.rows) u) l.objects.entries l.x-iterator) ≡ (is_on l.fn.tops.keys u || any_of (λ (o : Named). is_on (map row_top o.rows) u) l.objects.entries l.xs.keys)
