use Rattle.std.proofs.Common.{◌≡◌, ◌∙◌, map, ap, sym, subst}
use Rattle.std.specs.List.Sorted.{IsStrictlySortedBy}
use Rattle.std.proofs.lemmas.Result.{IfOk-weaker}
use Rattle.arj_base.specs.Order.{uid_order}
use Rattle.arj_base.specs.Rows.{is_on}
use Rattle.arj_lock.specs.Held.{AreListed}
use Rattle.arj_naming.proofs.Listed.{listed_by}
use Rattle.arj_naming.proofs.Indexed.{tops_touched}
use Rattle.arj_naming.proofs.Quiet.{tops_of_all}
use Rattle.arj_protocol.specs.Named.{Named}
use Rattle.arj_protocol.specs.Naming.{Naming, naming_holders}
use Rattle.arj_protocol.specs.Server.{row_top}
use Rattle.arj_naming.proofs.part.Part.held.Goals as goal

pub returns : goal.returns
returns c =
    let m = c.self.inside.objects.entries in
    let holders = naming_holders c.args.self.now in
    let keys = c.in_ok-tops.tops.keys in
    IfOk-weaker c.list_of.result (λ list. list ≡ keys) (AreListed holders)
    (λ list is. record {
      each = listed_by holders list (λ u. (λ j. is_on (is j) u)
          ∙ (c.in_ok-tops.ensures u
          ∙ (tops_touched (λ (o : Named). is_on (map row_top o.rows) u) m c.self.inside.touched.entries c.self.invariant.sorted c.self.invariant.touched (λ o none. λ i. is_on (map row_top (none i)) u)
          ∙ (sym (tops_of_all m u) ∙ ap (λ (n : Naming). is_on (naming_holders n) u) c.self.view_is))));
      increasing = subst (IsStrictlySortedBy uid_order) (sym is) c.list_of.ensures.increasing;
    }) c.list_of.ensures.list
