use Rattle.std.proofs.Common.{◌≡◌, ◌∙◌, ◌++◌, ap, sym, subst}
use Rattle.std.proofs.lemmas.Result.{IfOk-weaker}
use Rattle.arj_disk.specs.FileMap.{FileMap}
use Rattle.arj_protocol.specs.Effect.{Disk}
use Rattle.arj_protocol.specs.Node.{prepared_actions}
use Rattle.arj_protocol.specs.Order.{uid_set}
use Rattle.arj_serve.specs.Held.{ListsPrepared}
use Rattle.arj_serve.specs.Kept.{Kept, StandsOn}
use Rattle.arj_serve.proofs.Holding.{prepared_are}
use Rattle.arj_store.specs.Pair.{ListsActions}
use Rattle.arj_serve.proofs.services.Services.prepared.Goals as goal

pub returns : goal.returns
returns g c =
    let o = g.O.ObjectStore in
    let now = c.args.self.now in
    let old : Kept g.row.O.Denot =
    record { number = c.self.inside.number; server = c.self.inside.server; naming = c.self.inside.naming; store = c.self.inside.store } in
    IfOk-weaker c.in_order.result (λ us. us ≡ uid_set c.as_slice.result.now) (λ us. (file : FileMap) (d : Disk) → StandsOn o now file d →
    us ≡ uid_set (prepared_actions d.store ++ prepared_actions d.names))
    (λ us is file d stands.
    let st : StandsOn o old file d = subst (λ k. StandsOn o k file d) (sym c.self.view_is) stands in
    is ∙ (ap uid_set c.as_slice.ensures ∙ prepared_are o old file d st c.in_ok-all.all c.push_prepared.new.all
    (subst (λ r. ListsActions (o.pair file r) c.in_ok-all.all) st.role_is (c.in_ok-all.ensures file st.keeps))
    (subst (λ (k : Kept g.row.O.Denot). ListsPrepared k.naming c.in_ok-all.all c.push_prepared.new.all) (sym c.self.view_is) c.in_ok-push_prepared.ensures))) c.in_order.ensures
