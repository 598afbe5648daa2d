use Rattle.std.proofs.Common.{◌≡◌, ◌∙◌}
use Rattle.std.proofs.lemmas.Result.{IfOk-weaker}
use Rattle.std.specs.List.{list_any}
use Rattle.arj_base.specs.Rows.{is_on}
use Rattle.arj_base.specs.declared.uid.Uid.{Uid}
use Rattle.arj_lock.specs.Held.{AreBelow, below}
use Rattle.arj_naming.proofs.Listed.{on_below, on_listed}
use Rattle.arj_naming.specs.Touched.{test_at}
use Rattle.arj_protocol.specs.Named.{Named}
use Rattle.arj_protocol.specs.Naming.{loses}
use Rattle.arj_protocol.specs.Order.{at_number}
use Rattle.arj_naming.proofs.touched.losers_at.Goals as goal

pub returns-in-Some : goal.returns-in-Some
returns-in-Some c =
    let rows = c.in-Some.object.now.rows in
    let action = c.args.action in
    IfOk-weaker c.holders_below.result (AreBelow action rows) (λ us. (act : Uid) →
    is_on us act ≡ test_at (λ (o : Named). list_any (loses action act) o.rows) (at_number c.args.x c.args.objects.now.entries))
    (λ us are act. on_listed (below action rows) us act are ∙ (on_below action act rows ∙ (λ i. test_at (λ (o : Named). list_any (loses action act) o.rows) (c.in-Some.ensures.value i)))) c.holders_below.ensures
