use Rattle.std.proofs.Common.{◌≡◌, map, drop}
use Rattle.std.specs.List.{list_all}
use Rattle.arj_book.specs.Kept.{call_in_lines, key_freed}
use Rattle.arj_book.proofs.nested.is_freed_by.Given as goal

abbrev pub invariant-loop-c : goal.invariant-loop-c
invariant-loop-c l = list_all (λ c. key_freed (call_in_lines l.lines) c l.d) (map (λ k. k.items) (drop l.c-index l.left))
    ≡ list_all (λ c. key_freed (call_in_lines l.lines) c l.d) (map (λ k. k.items) l.left)
