use Rattle.std.proofs.Common.{◌∙◌, ◌&&◌, ap, arith, sym}
use Rattle.std.specs.Prelude.{nat_le}
use Rattle.std.specs.List.{list_all}
use Rattle.arj_text.specs.Fields.{is_distinct}
use Rattle.arj_text.proofs.ListItems.{node_no_comma, no_nodes, other_nodes, same_nodes}
use Rattle.arj_text.proofs.field_list.nodes.Goals as goal

pub items-requires-clause-no_comma : goal.items-requires-clause-no_comma
items-requires-clause-no_comma c = node_no_comma

pub returns-in_default : goal.returns-in_default
returns-in_default c = no_nodes c.args.n c.args.most c.args.bytes.now (omega arith) (rw c.in_default.is at c.in_ok-found.ensures)

pub returns-else-are_distinct_up_to : goal.returns-else-are_distinct_up_to
returns-else-are_distinct_up_to c =
    other_nodes c.args.n c.args.most c.args.bytes.now c.in-Some.found (omega arith) (rw c.in-Some.is at c.in_ok-found.ensures)
    (ap (λ ns. list_all (λ m. nat_le 1 m && nat_le m c.args.n) ns && is_distinct ns) (sym c.as_slice.ensures) ∙ sym c.if-are_distinct_up_to.ensures)

pub returns-then-are_distinct_up_to : goal.returns-then-are_distinct_up_to
returns-then-are_distinct_up_to c =
    same_nodes c.args.n c.args.most c.args.bytes.now c.in-Some.found (rw c.in-Some.is at c.in_ok-found.ensures)
    (ap (λ ns. list_all (λ m. nat_le 1 m && nat_le m c.args.n) ns && is_distinct ns) (sym c.as_slice.ensures) ∙ sym c.if-are_distinct_up_to.ensures)
