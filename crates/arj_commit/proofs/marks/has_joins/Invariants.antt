use Rattle.std.proofs.Common.{◌≡◌, drop}
use Rattle.arj_commit.specs.Marks.{joins_by}
use Rattle.arj_commit.proofs.marks.has_joins.Given as goal
use Rattle.arj_protocol.specs.Order.{is_empty}

-- none was found so far
abbrev pub invariant-loop-store : goal.invariant-loop-store
invariant-loop-store l = is_empty (joins_by l.marks l.x (drop l.store-index l.joins)) ≡ is_empty (joins_by l.marks l.x l.joins)
