use Rattle.std.proofs.Common.{◌≡◌, ◌||◌, true, false, sym, ◌∙◌, ap}
use Rattle.std.proofs.Math.Bool.{or-false}
use Rattle.arj_main.specs.Slips.{is_no_node, names_no_node}
use Rattle.arj_main.proofs.Cut.{any_alone, any_at_cut}
use Rattle.arj_main.proofs.slip_tests.+names_no_node.Goals as goal

pub returns-then-is_no_node : goal.returns-then-is_no_node
returns-then-is_no_node t c =
    let whole = any_at_cut is_no_node c.args.nodes 44 c.args.list.now c.in-Some.item.now c.in-Some.behind.now c.in-Some.ensures.0 c.in-Some.ensures.1 in
    let yes : is_no_node c.args.nodes c.in-Some.item.now ≡ true = sym c.is_no_node.ensures ∙ c.if-is_no_node.true in
    c.if-is_no_node.true ∙ sym (whole ∙ ap (λ b. b || names_no_node c.args.nodes c.in-Some.behind.now) yes)

pub returns-else-is_no_node : goal.returns-else-is_no_node
returns-else-is_no_node t c =
    let whole = any_at_cut is_no_node c.args.nodes 44 c.args.list.now c.in-Some.item.now c.in-Some.behind.now c.in-Some.ensures.0 c.in-Some.ensures.1 in
    let no : is_no_node c.args.nodes c.in-Some.item.now ≡ false = sym c.is_no_node.ensures ∙ c.if-is_no_node.false in
    c.names_no_node.ensures ∙ sym (whole ∙ ap (λ b. b || names_no_node c.args.nodes c.in-Some.behind.now) no)

pub returns-in-None : goal.returns-in-None
returns-in-None t c =
    c.is_no_node-in-None.ensures ∙ sym (any_alone is_no_node c.args.nodes 44 c.args.list.now c.in-None.ensures ∙ or-false _)
