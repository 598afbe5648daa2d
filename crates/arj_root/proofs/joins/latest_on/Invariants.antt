use Rattle.std.proofs.Common.{◌≡◌, drop, None}
use Rattle.std.specs.Option.{option_copied}
use Rattle.arj_protocol.specs.Coord as coord
use Rattle.arj_root.specs.Merged.{of_joins}
use Rattle.arj_root.specs.Noted.{of_tree}
use Rattle.arj_root.proofs.joins.latest_on.Given as goal

-- what is left answers the same as the whole
abbrev pub invariant-loop-join : goal.invariant-loop-join
invariant-loop-join l =
    coord.latest_of (option_copied l.found) (coord.joins_on l.x l.top (of_joins (drop l.join-index l.joined)) (of_tree l.tree))
    ≡ coord.latest_of None (coord.joins_on l.x l.top (of_joins l.joined) (of_tree l.tree))
