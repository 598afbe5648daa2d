use Rattle.std.proofs.Common.{◌≡◌, ◌&&◌, ◌==◌, drop}
use Rattle.std.specs.List.{list_any}
use Rattle.arj_protocol.specs.Coord as coord
use Rattle.arj_root.specs.Noted.{of_tree}
use Rattle.arj_root.proofs.joins.any_on.Given as goal

-- what is left answers the same as the whole
abbrev pub invariant-loop-join : goal.invariant-loop-join
invariant-loop-join l =
    list_any (λ (j : coord.Joined). (j.x == l.x) && coord.survives l.top j.path (of_tree l.tree)) (drop l.join-index l.joined)
    ≡ list_any (λ (j : coord.Joined). (j.x == l.x) && coord.survives l.top j.path (of_tree l.tree)) l.joined
