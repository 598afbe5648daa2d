use Rattle.std.proofs.Common.{◌∷◌, ◌++◌, ◌∙◌, [], ap}
use Rattle.std.specs.Prelude.{filter}
use Rattle.arj_changes.specs.Kept.{is_ended, is_found}
use Rattle.arj_changes.specs.Tops.{is_done, tops_called}
use Rattle.arj_model.specs.Serial.{root_of, top_place, unit_place}
use Rattle.arj_last.proofs.Tops.{key_among}
use Rattle.arj_last.proofs.keys.front.Goals as goal

pub returns : goal.returns
returns c = λ lines has writes.
    let changes = c.args.changes.now in
    let top = c.args.top in
    let root = c.root_of-root.result in
    let done = is_done (is_ended changes) (is_found changes) in
    let owns = c.in_ok-own.ensures ∙ ap (filter done) (c.items_at.ensures ∙ writes.by_top top) in
    let units = c.in_ok-unit.ensures ∙ ap (filter done) (c.items_at-2.ensures ∙ writes.by_root root) in
    let unit = c.unit_of.ensures ∙ ap (λ cs. unit_place (tops_called cs) root) c.as_slice-2.ensures.value in
    let place = c.place_of.ensures ∙ ap (λ cs. top_place (tops_called cs) top) c.as_slice-3.ensures.value in
    let its = c.root_of-root.ensures ∙ ap (λ cs. root_of (tops_called cs) top) c.as_slice.ensures.value in
    c.in_ok-push-2.ensures.items
    ∙ ap (λ ns. ns ++ c.place_of.result ∷ []) (c.in_ok-push.ensures.items ∙ ap (λ ns. ns ++ c.unit_of.result ∷ []) c.new-key.ensures.items)
    ∙ (λ i. unit i ∷ place i ∷ [])
    ∙ key_among lines changes has top root c.in_ok-own.own.items c.in_ok-unit.unit.items owns its units
