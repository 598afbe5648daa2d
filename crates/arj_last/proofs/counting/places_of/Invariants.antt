-- The places so far.
use Rattle.std.proofs.Common.{◌≡◌, map, take}
use Rattle.arj_last.specs.Survivors.{place_in}
use Rattle.arj_last.proofs.counting.places_of.Given as goal

abbrev pub invariant-loop-wrote : goal.invariant-loop-wrote
invariant-loop-wrote l = l.places.items ≡ map place_in (take l.wrote-index l.wrotes)
