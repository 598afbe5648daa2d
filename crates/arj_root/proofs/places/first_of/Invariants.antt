use Rattle.std.proofs.Common.{◌≡◌, drop}
use Rattle.arj_root.specs.Placed.{place_in}
use Rattle.arj_root.proofs.places.first_of.Given as goal

-- what is left answers the same as the whole
abbrev pub invariant-loop-other : goal.invariant-loop-other
invariant-loop-other l = place_in l.top (drop l.other-index l.places) ≡ place_in l.top l.places
