use Rattle.std.proofs.Common.{◌≡◌, drop}
use Rattle.arj_commit.specs.Marks.{marked_all}
use Rattle.arj_commit.proofs.marks.marked.Given as goal

-- the marks of the stores that are left are put into those so far
abbrev pub invariant-loop-store : goal.invariant-loop-store
invariant-loop-store l =
    marked_all (drop l.store-index l.stores) l.changed l.used l.all.items ≡ marked_all l.stores l.changed l.used l.marks
