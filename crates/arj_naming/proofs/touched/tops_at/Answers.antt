use Rattle.std.proofs.Common.{◌≡◌, ◌∙◌, map}
use Rattle.std.proofs.lemmas.Result.{IfOk-weaker}
use Rattle.arj_base.specs.Rows.{is_on}
use Rattle.arj_base.specs.declared.uid.Uid.{Uid}
use Rattle.arj_lock.specs.Held.{AreListed}
use Rattle.arj_naming.proofs.Listed.{on_listed}
use Rattle.arj_naming.specs.Touched.{test_at}
use Rattle.arj_protocol.specs.Named.{Named}
use Rattle.arj_protocol.specs.Order.{at_number}
use Rattle.arj_protocol.specs.Server.{row_top}
use Rattle.arj_naming.proofs.touched.tops_at.Goals as goal

pub returns-in-Some : goal.returns-in-Some
returns-in-Some c =
    let tops = map row_top c.in-Some.object.now.rows in
    IfOk-weaker c.tops.result (AreListed tops) (λ us. (u : Uid) →
    is_on us u ≡ test_at (λ (o : Named). is_on (map row_top o.rows) u) (at_number c.args.x c.args.objects.now.entries))
    (λ us are u. on_listed tops us u are ∙ (λ i. test_at (λ (o : Named). is_on (map row_top o.rows) u) (c.in-Some.ensures.value i))) c.tops.ensures
