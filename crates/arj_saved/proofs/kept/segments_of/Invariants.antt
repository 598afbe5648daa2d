use Rattle.std.proofs.Common.{take}
use Rattle.arj_saved.specs.Saved.{AreKept, segments_in}
use Rattle.arj_saved.proofs.kept.segments_of.Given as goal

abbrev pub invariant-loop-file : goal.invariant-loop-file
invariant-loop-file l = AreKept (segments_in (take l.file-index l.files)) l.kept.items
