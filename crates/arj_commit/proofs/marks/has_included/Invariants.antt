use Rattle.std.proofs.Common.{◌≡◌, drop}
use Rattle.arj_commit.specs.Marks.{included_in}
use Rattle.arj_commit.proofs.marks.has_included.Given as goal
use Rattle.arj_protocol.specs.Order.{is_empty}

-- none was found so far
abbrev pub invariant-loop-object : goal.invariant-loop-object
invariant-loop-object l = is_empty (included_in l.marks (drop l.object-index l.used)) ≡ is_empty (included_in l.marks l.used)
