-- so many files were written
use Rattle.std.specs.Prelude.{[], take}
use Rattle.arj_resuming.specs.Written.{AreWritten}
use Rattle.arj_world.specs.Disks.{HaveMoved, HaveNotStopped}
use Rattle.arj_resuming.proofs.files.put_files.Given as goal

abbrev pub invariant-loop-file : goal.invariant-loop-file
invariant-loop-file g l = record {
  written : AreWritten g.D.Disk.file (take l.file-index l.files) l.fn.rack l.rack;
  moved : HaveMoved g.D.Disk 16 [] l.fn.rack l.rack;
  unstopped : HaveNotStopped g.D.Disk l.fn.rack l.rack;
}
