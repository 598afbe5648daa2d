use Rattle.std.specs.Prelude.{◌≡◌, ◌++◌, drop}
use Rattle.std.specs.List.{flat_map}
use Rattle.arj_text.specs.Words.{behind_comma, decimals}
use Rattle.arj_text.proofs.words.put_more_nodes.Given as goal

abbrev pub invariant-loop-node : goal.invariant-loop-node
invariant-loop-node l =
    l.out ++ flat_map behind_comma (decimals (drop l.node-index l.nodes)) ≡ l.fn.out ++ flat_map behind_comma (decimals l.nodes)
