use Rattle.std.proofs.Common.{◌≡◌, ◌++◌, drop}
use Rattle.arj_commit.specs.Marks.{included_in}
use Rattle.arj_commit.proofs.marks.included.Given as goal

-- the inclusions so far, and those of the objects that are left
abbrev pub invariant-loop-object : goal.invariant-loop-object
invariant-loop-object l = l.all ++ included_in l.marks (drop l.object-index l.used) ≡ included_in l.marks l.used
