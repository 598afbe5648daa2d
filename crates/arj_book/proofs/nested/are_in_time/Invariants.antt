use Rattle.std.proofs.Common.{◌≡◌, map, drop}
use Rattle.arj_book.specs.Kept.{keys_in_time}
use Rattle.arj_book.proofs.nested.are_in_time.Given as goal

abbrev pub invariant-loop-key : goal.invariant-loop-key
invariant-loop-key l = keys_in_time (map (λ k. k.items) (drop l.key-index l.keys)) ≡ keys_in_time (map (λ k. k.items) l.keys)
