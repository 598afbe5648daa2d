use Rattle.std.proofs.Common.{◌≡◌, drop}
use Rattle.std.specs.List.{list_all}
use Rattle.arj_protocol.specs.Tree.{is_spent}
use Rattle.arj_root.proofs.index.all_spent.Given as goal

-- what is left answers the same as the whole
abbrev pub invariant-loop-path : goal.invariant-loop-path
invariant-loop-path l = list_all (λ p. is_spent p l.tree) (drop l.path-index l.paths) ≡ list_all (λ p. is_spent p l.tree) l.paths
