use Rattle.std.proofs.Common.{List}
use Rattle.arj_clean.specs.Standing.{IsSaved}
use Rattle.arj_disk.specs.declared.slot.Role.TheVariants.{Store}
use Rattle.arj_image.specs.declared.image.NodeFile.{NodeFile}
use Rattle.arj_past.proofs.Nodes.{OfEach}
use Rattle.arj_past.specs.Past.{IsOfHeader}
use Rattle.arj_saved.specs.Saved.{disks_of}
use Rattle.arj_past.proofs.past.are_known.Given as goal

abbrev pub invariant-loop-done : goal.invariant-loop-done
invariant-loop-done l = (files : List NodeFile) → IsSaved l.saved.header.now l.saved.lines.now l.saved.standing.now l.saved.segments.now l.saved.pendings.now files →
    OfEach (λ n. (let h = l.saved.header.now in IsOfHeader h.objects (disks_of files n) Store)) l.done
