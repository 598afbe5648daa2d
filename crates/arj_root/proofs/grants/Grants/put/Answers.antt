use Rattle.std.proofs.Common.{◌≡◌, rules, List, length, sym, ap, ◌∙◌, ◌++◌, ◌∷◌, [], refl}
use Rattle.arj_protocol.specs.Coord as coord
use Rattle.arj_root.specs.Merged.{regranted, place_of}
use Rattle.arj_root.specs.Placed.{with_place}
use Rattle.arj_root.proofs.Merged.{put_last, granted_is}
use Rattle.arj_root.proofs.Placed.{has_pushed}
use Rattle.arj_root.proofs.grants.Grants.put.Goals as goal

pub invariant_of-self-2 : goal.invariant_of-self-2
invariant_of-self-2 c =
    let g = c.args.grant in
    let n_is : c.len.result ≡ length c.self.inside.grants.items = search rules in
    has_pushed c.self.inside.places c.add.new.self c.self.inside.grants.items c.push_reserved.new.self.items g c.len.result c.self.invariant n_is
    (c.in_ok-add.ensures.added ∙ ap (λ (g : coord.Grant). with_place g.x g.top c.len.result c.self.inside.places) c.grant.view_is)
    (c.push_reserved.ensures.items ∙ ap (λ (l : List coord.Grant). l ++ g ∷ []) c.reserve.ensures.items)

pub returns-clause-put : goal.returns-clause-put
returns-clause-put c =
    let g = c.args.grant in
    put_last (coord.is_grant_of g.top g.x) (regranted g.least g) g c.self.inside.grants.items c.self.inside.grants.items c.args.self.now c.push_reserved.new.self.items refl c.self.view_is
    (ap (λ (gs : List coord.Grant). place_of (coord.is_grant_of g.top g.x) 0 gs) c.self.view_is ∙ c.requires)
    (c.push_reserved.ensures.items ∙ ap (λ (l : List coord.Grant). l ++ g ∷ []) c.reserve.ensures.items)
    ∙ sym (granted_is g c.args.self.now)
