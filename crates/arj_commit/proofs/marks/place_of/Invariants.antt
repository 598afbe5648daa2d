use Rattle.std.proofs.Common.{◌≡◌, ◌++◌, take, drop}
use Rattle.arj_protocol.specs.Commit.{with_mark}
use Rattle.arj_commit.proofs.marks.place_of.Given as goal

-- the mark goes behind those that were looked at
abbrev pub invariant-loop-at : goal.invariant-loop-at
invariant-loop-at l = with_mark (l.x, l.store) l.marks ≡ take l.at l.marks ++ with_mark (l.x, l.store) (drop l.at l.marks)
