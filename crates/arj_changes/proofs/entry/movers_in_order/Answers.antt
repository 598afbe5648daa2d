use Rattle.std.proofs.Common.{◌≡◌, ◌∙◌, ap}
use Rattle.std.proofs.lemmas.Result.{IfOk-weaker}
use Rattle.std.specs.Prelude.{filter}
use Rattle.arj_model.specs.Last.{serial_tops}
use Rattle.arj_model.specs.Serial.{arrange}
use Rattle.arj_changes.specs.Folded.{tops_ranked}
use Rattle.arj_changes.specs.Stores.{moves}
use Rattle.arj_changes.specs.Tops.{rank_less, tops_called}
use Rattle.arj_changes.proofs.Folded.{movers_sorted}
use Rattle.arj_changes.proofs.Tops.{tops_are}
use Rattle.arj_changes.proofs.entry.movers_in_order.Goals as goal

pub returns : goal.returns
returns c = λ lines has.
    let changes = c.args.changes.now in
    let x = c.args.x in
    let cs = c.as_slice.result.now in
    let are = ap tops_called (c.as_slice.ensures.value ∙ c.in_ok-tops.ensures) ∙ tops_are lines changes has in
    IfOk-weaker c.in_order.result (λ sorted. sorted.items ≡ arrange rank_less c.as_slice-2.result.now) (λ sorted. tops_ranked sorted.items ≡ filter (moves lines x) (serial_tops lines))
    (λ sorted h. ap tops_ranked (h ∙ ap (arrange rank_less) (c.as_slice-2.ensures.value ∙ c.in_ok-ranked.ensures)) ∙ movers_sorted lines changes has x cs are) c.in_order.ensures
