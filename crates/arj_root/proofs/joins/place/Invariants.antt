use Rattle.std.proofs.Common.{◌≡◌, drop}
use Rattle.arj_root.specs.Merged.{place_of, is_join_of}
use Rattle.arj_root.proofs.joins.place.Given as goal

-- what is left answers the same as the whole
abbrev pub invariant-loop-i : goal.invariant-loop-i
invariant-loop-i l =
    place_of (is_join_of l.action l.x l.store) l.i (drop l.i l.joined) ≡ place_of (is_join_of l.action l.x l.store) 0 l.joined
