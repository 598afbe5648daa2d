use Rattle.std.proofs.Common.{◌≡◌, ◌∙◌, true, None, ap, sym, subst}
use Rattle.std.specs.Prelude.{◌↔◌}
use Rattle.arj_disk.specs.declared.slot.Role.TheVariants.{Store}
use Rattle.arj_protocol.specs.Words.{Uid}
use Rattle.arj_serve.specs.Kept.{Kept}
use Rattle.arj_serve.proofs.Holding.{store_clear}
use Rattle.arj_serve.proofs.services.Services.has_no_states.Goals as goal

pub returns : goal.returns
returns g c = λ file d stands.
    let o = g.O.ObjectStore in
    let store_is : c.self.inside.store ≡ c.args.self.now.store = ap (λ (k : Kept g.row.O.Denot). k.store) c.self.view_is in
    store_clear (o.pair file Store) d.store c.is_clear.result stands.pair
    (subst (λ r. (c.is_clear.result ≡ true) ↔ ((a : Uid) →
    (o.pair file r).pend a ≡ None)) (ap o.own_role store_is ∙ stands.role_is) (c.is_clear.ensures file (subst (λ s. o.keeps s file) (sym store_is) stands.keeps)))
