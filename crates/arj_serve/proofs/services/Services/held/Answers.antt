use Rattle.std.proofs.Common.{◌≡◌, ◌∙◌, ◌++◌, ap, sym, subst}
use Rattle.std.proofs.lemmas.Result.{IfOk-weaker}
use Rattle.arj_disk.specs.FileMap.{FileMap}
use Rattle.arj_protocol.specs.Coord.{Coord}
use Rattle.arj_protocol.specs.Effect.{Disk}
use Rattle.arj_protocol.specs.Node.{holders}
use Rattle.arj_protocol.specs.Order.{uid_set}
use Rattle.arj_serve.specs.Held.{ListsNames}
use Rattle.arj_serve.specs.Kept.{Kept, StandsOn, parts_with}
use Rattle.arj_serve.proofs.Holding.{holders_are}
use Rattle.arj_store.specs.Pair.{ListsActions}
use Rattle.arj_serve.proofs.services.Services.held.Goals as goal

pub returns : goal.returns
returns g c =
    let o = g.O.ObjectStore in
    let now = c.args.self.now in
    let old : Kept g.row.O.Denot =
    record { number = c.self.inside.number; server = c.self.inside.server; naming = c.self.inside.naming; store = c.self.inside.store } in
    IfOk-weaker c.in_order.result (λ us. us ≡ uid_set c.as_slice-2.result.now) (λ us. (file : FileMap) (d : Disk) → StandsOn o now file d →
    (e : Coord) → us ≡ holders d (parts_with now e))
    (λ us is file d stands e.
    let st : StandsOn o old file d = subst (λ k. StandsOn o k file d) (sym c.self.view_is) stands in
    is ∙ (ap uid_set c.as_slice-2.ensures ∙ (holders_are o old file d st e c.in_ok-all.all c.in_ok-prepared.prepared c.push_names.new.all c.in_ok-all.ensures
    (subst (λ r. ListsActions (o.pair file r) c.in_ok-prepared.prepared) st.role_is (c.in_ok-prepared.ensures file st.keeps))
    (subst (λ us. ListsNames c.self.inside.naming us c.push_names.new.all) (c.in_ok-push_all.ensures ∙ ap (λ us. c.in_ok-all.all ++ us) c.as_slice.ensures)
    (subst (λ (k : Kept g.row.O.Denot). ListsNames k.naming c.push_all.new.all c.push_names.new.all) (sym c.self.view_is) c.in_ok-push_names.ensures))
    ∙ (λ i. holders d (parts_with (c.self.view_is i) e))))) c.in_order.ensures
