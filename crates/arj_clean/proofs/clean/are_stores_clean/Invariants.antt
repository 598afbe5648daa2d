use Rattle.std.proofs.Common.{◌≡◌, List, Some, take}
use Rattle.arj_journal.specs.declared.header.ObjectLine.{ObjectLine}
use Rattle.arj_model.specs.Last.{object_line}
use Rattle.arj_image.specs.declared.image.NodeFile.{NodeFile}
use Rattle.arj_clean.specs.Standing.{IsSaved}
use Rattle.arj_saved.specs.Saved.{disks_of}
use Rattle.arj_clean.specs.Clean.{StoresHoldLast}
use Rattle.arj_clean.proofs.clean.are_stores_clean.Given as goal

abbrev pub invariant-loop-store : goal.invariant-loop-store
invariant-loop-store l = (files : List NodeFile) (o : ObjectLine) → IsSaved l.saved.header.now l.saved.lines.now l.saved.standing.now l.saved.segments.now l.saved.pendings.now files → object_line l.saved.header.now l.x ≡ Some o →
    StoresHoldLast l.saved.header.now l.saved.lines.now (disks_of files) l.x (take l.store-index l.stores)
