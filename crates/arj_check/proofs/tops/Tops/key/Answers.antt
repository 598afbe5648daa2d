use Rattle.std.proofs.Common.{rules, ◌≡◌, ◌∙◌, [], ◌∷◌, ap}
use Rattle.std.specs.Option.{unwrap_or}
use Rattle.arj_model.specs.Serial.{root_of, top_place, unit_place}
use Rattle.arj_check.proofs.Marks.{place_is, root_is}
use Rattle.arj_check.proofs.tops.Tops.key.Goals as goal

pub returns : goal.returns
returns c = λ ts h.
    let items : c.push-2.new.self.items ≡ c.unit_of-unit.result ∷ c.place_of-place.result ∷ [] = search rules in
    let root : c.root_of-root.result ≡ root_of ts c.args.top =
    c.root_of-root.ensures ∙ ap (λ o. unwrap_or o c.args.top) (h.roots c.args.top) ∙ root_is ts c.args.top in
    let unit : c.unit_of-unit.result ≡ unit_place ts (root_of ts c.args.top) =
    c.unit_of-unit.ensures ∙ h.units c.root_of-root.result ∙ ap (unit_place ts) root in
    let place : c.place_of-place.result ≡ top_place ts c.args.top =
    c.place_of-place.ensures ∙ ap (λ o. unwrap_or o 0) (h.places c.args.top) ∙ place_is ts c.args.top in
    items ∙ (λ i. unit i ∷ place i ∷ [])
