use Rattle.std.proofs.Common.{List, take}
use Rattle.std.specs.List.{AllByRecursion}
use Rattle.arj_clean.specs.Standing.{IsSaved}
use Rattle.arj_image.specs.declared.image.NodeFile.{NodeFile}
use Rattle.arj_past.specs.Past.{HoldItsPast}
use Rattle.arj_saved.specs.Saved.{disks_of}
use Rattle.arj_past.proofs.past.are_past.Given as goal

abbrev pub invariant-loop-object : goal.invariant-loop-object
invariant-loop-object l = (files : List NodeFile) → IsSaved l.saved.header.now l.saved.lines.now l.saved.standing.now l.saved.segments.now l.saved.pendings.now files →
    AllByRecursion (λ o. HoldItsPast l.saved.header.now l.saved.lines.now (disks_of files) o.x) (take l.object-index l.object-items)
