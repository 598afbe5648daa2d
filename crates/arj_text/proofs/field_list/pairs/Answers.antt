use Rattle.std.proofs.Common.{◌∙◌, ap, sym}
use Rattle.arj_text.specs.Fields.{is_rising}
use Rattle.arj_text.proofs.ListItems.{pair_no_comma, falling_pairs, no_pairs, rising_pairs}
use Rattle.arj_text.proofs.field_list.pairs.Goals as goal

pub items-requires-clause-no_comma : goal.items-requires-clause-no_comma
items-requires-clause-no_comma c = pair_no_comma

pub returns-in_default : goal.returns-in_default
returns-in_default c = no_pairs c.args.most c.args.bytes.now c.if-is_text.ensures (rw c.in_default.is at c.in_ok-found.ensures)

pub returns-else-are_rising : goal.returns-else-are_rising
returns-else-are_rising c =
    falling_pairs c.args.most c.args.bytes.now c.in-Some.found c.if-is_text.ensures (rw c.in-Some.is at c.in_ok-found.ensures)
    (ap is_rising (sym c.as_slice.ensures) ∙ sym c.if-are_rising.ensures)

pub returns-then-are_rising : goal.returns-then-are_rising
returns-then-are_rising c =
    rising_pairs c.args.most c.args.bytes.now c.in-Some.found (rw c.in-Some.is at c.in_ok-found.ensures)
    (ap is_rising (sym c.as_slice.ensures) ∙ sym c.if-are_rising.ensures)
