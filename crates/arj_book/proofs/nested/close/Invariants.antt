use Rattle.std.proofs.Common.{◌≡◌, ◌≤◌, ◌-◌, ◌++◌, [], map, take, drop, filter}
use Rattle.std.specs.Prelude.{not, vec_len}
use Rattle.arj_book.specs.Kept.{are_past, commits_of}
use Rattle.arj_book.proofs.nested.close.Given as goal

abbrev pub invariant-loop-i : goal.invariant-loop-i
invariant-loop-i l = record {
  within : l.i ≤ vec_len l.left;
  rest : map (λ k. k.items) (take l.i l.left.items) ++ filter (λ c. not (are_past (commits_of c) [] l.at)) (map (λ k. k.items) (drop l.i l.left.items))
      ≡ filter (λ c. not (are_past (commits_of c) [] l.at)) (map (λ k. k.items) l.fn.left.items);
}

abbrev pub decreases-loop-i : goal.decreases-loop-i
decreases-loop-i l = vec_len l.left - l.i
