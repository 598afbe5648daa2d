use Rattle.std.proofs.Common.{◌≡◌, drop}
use Rattle.arj_protocol.specs.Tree.{is_spent}
use Rattle.arj_tree.proofs.tree.Tree.is_spent.Given as goal

-- what is left answers the same as the whole
abbrev pub invariant-loop-uid : goal.invariant-loop-uid
invariant-loop-uid l = is_spent (drop l.uid-index l.path) l.self ≡ is_spent l.path l.self
