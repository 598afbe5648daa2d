use Rattle.std.proofs.Common.{◌≡◌, ◌∙◌, ap, map}
use Rattle.std.specs.List.{filter_map}
use Rattle.std.proofs.lemmas.Result.{IfOk-weaker}
use Rattle.arj_model.specs.Last.{writes_of}
use Rattle.arj_last.proofs.Sorted.{picked_are}
use Rattle.arj_last.specs.Groups.{items_of}
use Rattle.arj_last.specs.Survivors.{wrote_at, wrote_of}
use Rattle.arj_last.proofs.picked.writes_on.Goals as goal

pub returns : goal.returns
returns c = λ lines has writes.
    let all = c.items_at-all.result.now in
    let changes = c.args.changes.now in
    let kept = c.args.writes.now in
    let x = c.args.x in
    let keys = map (λ k. k.items) c.in_ok-keys.keys.items in
    let places = c.in_ok-places.places.items in
    IfOk-weaker c.picked.result (λ ws. ws.items ≡ filter_map (wrote_at all) c.as_slice.result.now) (λ ws. ws.items ≡ map wrote_of
    (writes_of lines x))
    (λ ws h. h ∙ ap (filter_map (wrote_at all)) c.as_slice.ensures.value
    ∙ picked_are lines changes kept has writes x all keys places (c.items_at-all.ensures
    ∙ ap (items_of kept.on) c.from.ensures) (c.in_ok-keys.ensures lines has writes) c.in_ok-places.ensures)
    c.picked.ensures
