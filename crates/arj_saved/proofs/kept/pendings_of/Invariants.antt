use Rattle.std.proofs.Common.{take}
use Rattle.arj_saved.specs.Saved.{AreKept, pendings_in}
use Rattle.arj_saved.proofs.kept.pendings_of.Given as goal

abbrev pub invariant-loop-file : goal.invariant-loop-file
invariant-loop-file l = AreKept (pendings_in (take l.file-index l.files)) l.kept.items
