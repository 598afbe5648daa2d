-- one node more
use Rattle.std.proofs.Common.{◌≡◌, ◌∙◌, ◌++◌, ◌+◌, suc, ap, arith, sym}
use Rattle.arj_saving.specs.Stops.{up_node, up_nodes}
use Rattle.arj_saving.proofs.stopping.up_nodes.Goals as goal

pub loop-done-preserved : goal.loop-done-preserved
loop-done-preserved c =
    let more : suc c.loop-done.done ≡ c.loop-done.done + 1 = omega arith in
    c.in_ok-put_up.ensures ∙ ap (λ ups. ups ++ up_node c.args.lines.now (c.loop-done.done + 1)) c.loop-done.invariant
    ∙ (λ i. up_nodes c.args.lines.now c.loop-done.done ++ up_node c.args.lines.now (sym more i)) ∙ ap (up_nodes c.args.lines.now) more
