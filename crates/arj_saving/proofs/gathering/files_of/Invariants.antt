-- The files of the nodes so far.
use Rattle.arj_saving.proofs.Racks.{AreGathered}
use Rattle.arj_saving.proofs.gathering.files_of.Given as goal

abbrev pub invariant-loop-done : goal.invariant-loop-done
invariant-loop-done g l = AreGathered g.D.Disk l.nodes (l.fn.rack, l.rack) l.done l.files
