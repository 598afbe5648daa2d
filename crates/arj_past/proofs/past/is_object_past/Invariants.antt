use Rattle.std.proofs.Common.{◌≡◌, List, Some}
use Rattle.arj_clean.specs.Standing.{IsSaved}
use Rattle.arj_image.specs.declared.image.NodeFile.{NodeFile}
use Rattle.arj_journal.specs.declared.header.ObjectLine.{ObjectLine}
use Rattle.arj_model.specs.Last.{object_line}
use Rattle.arj_past.proofs.Nodes.{OfEach}
use Rattle.arj_past.specs.Past.{HoldsPast}
use Rattle.arj_saved.specs.Saved.{disks_of}
use Rattle.arj_past.proofs.past.is_object_past.Given as goal

abbrev pub invariant-loop-done : goal.invariant-loop-done
invariant-loop-done l = (files : List NodeFile) (o : ObjectLine) → IsSaved l.saved.header.now l.saved.lines.now l.saved.standing.now l.saved.segments.now l.saved.pendings.now files → object_line l.saved.header.now l.x ≡ Some o →
    OfEach (λ n. HoldsPast l.saved.header.now l.saved.lines.now (disks_of files n) l.x) l.done
