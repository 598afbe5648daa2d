use Rattle.std.proofs.Common.{◌≡◌, ◌||◌}
use Rattle.std.specs.List.{list_any}
use Rattle.arj_base.specs.Rows.{is_on}
use Rattle.arj_base.specs.declared.uid.Uid.{Uid}
use Rattle.arj_naming.specs.Touched.{any_of}
use Rattle.arj_protocol.specs.Named.{Named}
use Rattle.arj_protocol.specs.Naming.{loses}
use Rattle.arj_naming.proofs.touched.all_losers.Given as goal

-- with the objects that are left the set has the losers of all
abbrev pub invariant-loop-x : goal.invariant-loop-x
invariant-loop-x l =
    (act : Uid) →
    (is_on l.losers.keys act || any_of (λ (o : Named). list_any (loses l.action act) o.rows) l.objects.entries l.x-iterator) ≡ any_of (λ (o : Named). list_any (loses l.action act) o.rows) l.objects.entries l.xs.keys
