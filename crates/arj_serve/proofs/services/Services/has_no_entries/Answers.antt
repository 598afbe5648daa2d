use Rattle.std.proofs.Common.{◌∙◌, ap, sym, subst, None, Some}
use Rattle.arj_protocol.specs.Order.{is_empty}
use Rattle.arj_serve.specs.Kept.{Kept, NamingStands}
use Rattle.arj_serve.proofs.Holding.{list_clear}
use Rattle.arj_serve.proofs.services.Services.has_no_entries.Goals as goal

pub returns-in-Some : goal.returns-in-Some
returns-in-Some g c = λ file d stands.
    let n = c.in-Some.naming in
    let named : NamingStands g.O.ObjectStore (Some n) file d.names =
    subst (λ x. NamingStands g.O.ObjectStore x file d.names) (sym (ap (λ (k : Kept g.row.O.Denot). k.naming) c.self.view_is) ∙ c.in-Some.is) stands.naming in
    list_clear c.is_clear.result n.pair.pend c.is_clear.ensures ∙ ap (λ p. is_empty p.pend) named.1

pub returns-in-None : goal.returns-in-None
returns-in-None g c = λ file d stands.
    let none : NamingStands g.O.ObjectStore None file d.names =
    subst (λ x. NamingStands g.O.ObjectStore x file d.names) (sym (ap (λ (k : Kept g.row.O.Denot). k.naming) c.self.view_is) ∙ c.in-None.is) stands.naming in
    ap is_empty (sym none)
