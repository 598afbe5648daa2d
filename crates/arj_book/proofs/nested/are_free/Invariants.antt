use Rattle.std.proofs.Common.{◌≡◌, drop}
use Rattle.arj_book.specs.Kept.{are_past}
use Rattle.arj_book.proofs.nested.are_free.Given as goal

abbrev pub invariant-loop-commit : goal.invariant-loop-commit
invariant-loop-commit l = are_past (drop l.commit-index l.commits) l.those l.at ≡ are_past l.commits l.those l.at
