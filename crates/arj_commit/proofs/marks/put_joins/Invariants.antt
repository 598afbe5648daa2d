use Rattle.std.proofs.Common.{◌≡◌, ◌++◌, drop}
use Rattle.arj_commit.specs.Marks.{joins_by}
use Rattle.arj_commit.proofs.marks.put_joins.Given as goal

-- the inclusions so far, and those of the stores that are left
abbrev pub invariant-loop-store : goal.invariant-loop-store
invariant-loop-store l = l.all ++ joins_by l.marks l.x (drop l.store-index l.joins) ≡ l.fn.all ++ joins_by l.marks l.x l.joins
