use Rattle.std.proofs.Common.{◌≡◌, List, Some, length, ◌<◌, sym, ap, ◌∙◌, refl, subst}
use Rattle.std.specs.Prelude.{slice_get}
use Rattle.std.proofs.lemmas.Option.{slice_get_read}
use Rattle.arj_protocol.specs.Coord as coord
use Rattle.arj_root.specs.Merged.{regranted, place_of}
use Rattle.arj_root.proofs.Merged.{taken_up, granted_is}
use Rattle.arj_root.proofs.Placed.{has_set}
use Rattle.arj_root.proofs.grants.Grants.raise.Goals as goal

pub invariant_of-self : goal.invariant_of-self
invariant_of-self c =
    let items = c.self.inside.grants.items in
    let f = c.grant.inside in
    let g : coord.Grant = record { top = f.top; x = f.x; least = f.least; named = f.named } in
    let at : slice_get items c.args.at ≡ Some c.index_mut.result.now =
    slice_get_read items (length items) c.args.at c.index_mut.result.now refl (subst (λ (l : List coord.Grant). c.args.at < length l) (sym c.self.view_is) c.requires.within) c.index_mut.ensures.value in
    let is : c.take.new.self ≡ regranted g.least g c.index_mut.result.now = c.take.ensures in
    has_set c.self.inside.places c.args.at items c.index_mut.result.now c.take.new.self c.self.invariant at (ap (λ (g : coord.Grant). g.top) is) (ap (λ (g : coord.Grant). g.x) is)

pub returns : goal.returns
returns c =
    let f = c.grant.inside in
    let g : coord.Grant = record { top = f.top; x = f.x; least = f.least; named = f.named } in
    taken_up (coord.is_grant_of g.top g.x) (regranted g.least g) g c.self.inside.grants.items c.self.inside.grants.items c.args.self.now c.args.at c.index_mut.result.now c.take.new.self refl c.self.view_is
    (ap (λ (gs : List coord.Grant). place_of (coord.is_grant_of g.top g.x) 0 gs) c.self.view_is ∙ ap (λ (h : coord.Grant). place_of (coord.is_grant_of h.top h.x) 0 c.args.self.now) c.grant.view_is ∙ c.requires.place)
    (subst (λ (l : List coord.Grant). c.args.at < length l) (sym c.self.view_is) c.requires.within) c.index_mut.ensures.value c.take.ensures
    ∙ sym (granted_is g c.args.self.now) ∙ ap (λ (g : coord.Grant). coord.granted_with g c.args.self.now) c.grant.view_is
