use Rattle.std.proofs.Common.{◌≡◌, drop, not}
use Rattle.std.specs.List.{list_any}
use Rattle.arj_protocol.specs.Tree.{is_committed}
use Rattle.arj_tree.proofs.tree.Tree.are_committed.Given as goal

-- what is left answers the same as the whole
abbrev pub invariant-loop-uid : goal.invariant-loop-uid
invariant-loop-uid l =
    list_any (λ w. not (is_committed w l.self)) (drop l.uid-index l.path) ≡ list_any (λ w. not (is_committed w l.self)) l.path
