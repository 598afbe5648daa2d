use Rattle.std.proofs.Common.{◌≡◌, drop, nat_lt}
use Rattle.std.specs.List.{list_all}
use Rattle.arj_book.proofs.nested.are_behind.Given as goal

abbrev pub invariant-loop-commit : goal.invariant-loop-commit
invariant-loop-commit l = list_all (λ m. nat_lt l.at m) (drop l.commit-index l.commits) ≡ list_all (λ m. nat_lt l.at m) l.commits
