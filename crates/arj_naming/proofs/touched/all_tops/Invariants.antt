use Rattle.std.proofs.Common.{◌≡◌, ◌||◌, map}
use Rattle.arj_base.specs.Rows.{is_on}
use Rattle.arj_base.specs.declared.uid.Uid.{Uid}
use Rattle.arj_naming.specs.Touched.{any_under}
use Rattle.arj_protocol.specs.Named.{Named}
use Rattle.arj_protocol.specs.Server.{row_top}
use Rattle.arj_naming.proofs.touched.all_tops.Given as goal

-- with the actions that are left the set has the tops of all
abbrev pub invariant-loop-xs : goal.invariant-loop-xs
invariant-loop-xs l =
    (u : Uid) → (is_on l.tops.keys u || any_under (λ (o : Named). is_on (map row_top o.rows) u) l.objects.entries l.xs-iterator) ≡ any_under (λ (o : Named). is_on (map row_top o.rows) u) l.objects.entries l.touched.entries
