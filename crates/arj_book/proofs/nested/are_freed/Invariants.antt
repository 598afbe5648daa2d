use Rattle.std.proofs.Common.{◌≡◌, [], map, drop}
use Rattle.arj_book.specs.Kept.{call_in_lines, keys_freed}
use Rattle.arj_book.proofs.nested.are_freed.Given as goal

abbrev pub invariant-loop-key : goal.invariant-loop-key
invariant-loop-key l =
    keys_freed (call_in_lines l.lines) (map (λ k. k.items) l.left.items) (map (λ k. k.items) (drop l.key-index l.keys))
    ≡ keys_freed (call_in_lines l.lines) [] (map (λ k. k.items) l.keys)
