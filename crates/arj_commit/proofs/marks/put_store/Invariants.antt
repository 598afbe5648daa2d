use Rattle.std.proofs.Common.{◌≡◌, drop}
use Rattle.arj_protocol.specs.Commit.{with_marks}
use Rattle.arj_commit.specs.Marks.{marks_in}
use Rattle.arj_commit.proofs.marks.put_store.Given as goal

-- the marks of the objects that are left are put into those so far
abbrev pub invariant-loop-object : goal.invariant-loop-object
invariant-loop-object l =
    with_marks (marks_in l.store l.changed (drop l.object-index l.used)) l.marks.items ≡ with_marks (marks_in l.store l.changed l.used) l.fn.marks.items
