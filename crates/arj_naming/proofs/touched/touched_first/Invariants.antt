use Rattle.std.proofs.Common.{◌≡◌, ◌||◌, ℕ, true, map}
use Rattle.arj_base.specs.Rows.{is_on}
use Rattle.arj_base.specs.declared.uid.Uid.{Uid}
use Rattle.arj_naming.specs.Touched.{is_in, is_touched, test_at}
use Rattle.arj_protocol.specs.Named.{Named}
use Rattle.arj_protocol.specs.Order.{at_number}
use Rattle.arj_protocol.specs.Server.{row_top}
use Rattle.arj_naming.proofs.touched.touched_first.Given as goal

-- each object stands under the tops that have a lock on its entry, or is left
abbrev pub invariant-loop-x : goal.invariant-loop-x
invariant-loop-x l =
    (u : Uid) (q : ℕ) → test_at (λ (o : Named). is_on (map row_top o.rows) u) (at_number q l.objects.entries) ≡ true →
    (is_touched l.touched.entries u q || is_in l.x-iterator q) ≡ true
