use Rattle.std.proofs.Common.{ap, ◌∙◌, [], unwrap_or}
use Rattle.arj_root.specs.Placed.{any_named_at}
use Rattle.arj_root.proofs.Placed.{named_by_places}
use Rattle.arj_root.proofs.grants.Grants.was_named.Goals as goal

pub returns-in-Some : goal.returns-in-Some
returns-in-Some c =
    c.any_named.ensures ∙ (λ i. any_named_at c.args.top c.args.binding (c.as_slice.ensures.value i) ((c.as_slice-in-Some.ensures ∙ ap (λ o. unwrap_or o []) c.in-Some.ensures) i))
    ∙ named_by_places c.self.inside.places c.self.inside.grants.items c.args.self.now c.args.top c.args.binding c.args.x c.self.invariant c.self.view_is

pub returns-in-None : goal.returns-in-None
returns-in-None c =
    ap (λ es. any_named_at c.args.top c.args.binding c.self.inside.grants.items es) (ap (λ o. unwrap_or o []) c.in-None.ensures)
    ∙ named_by_places c.self.inside.places c.self.inside.grants.items c.args.self.now c.args.top c.args.binding c.args.x c.self.invariant c.self.view_is
