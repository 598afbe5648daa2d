use Rattle.std.proofs.Common.{◌≡◌, map, take}
use Rattle.arj_replay.specs.Sorting.{last_of}
use Rattle.arj_book.proofs.keeps.places_of.Given as goal

abbrev pub invariant-loop-key : goal.invariant-loop-key
invariant-loop-key l = l.places.items ≡ map last_of (map (λ k. k.items) (take l.key-index l.keys))
