use Rattle.std.proofs.Common.{◌≡◌, drop}
use Rattle.std.specs.List.{list_any}
use Rattle.arj_protocol.specs.Coord as coord
use Rattle.arj_root.specs.Noted.{of_tree}
use Rattle.arj_root.proofs.index.any_retained.Given as goal

-- what is left answers the same as the whole
abbrev pub invariant-loop-path : goal.invariant-loop-path
invariant-loop-path l =
    list_any (λ p. coord.is_retained p (of_tree l.tree)) (drop l.path-index l.paths) ≡ list_any (λ p. coord.is_retained p (of_tree l.tree)) l.paths
