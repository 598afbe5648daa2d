-- so many frames may still be delivered
use Rattle.std.proofs.Common.{[], ◌≡◌}
use Rattle.arj_protocol.specs.World.{settle, settle_for}
use Rattle.arj_world.specs.Disks.{HaveMoved}
use Rattle.arj_world.specs.Goes.{GoesPartTo}
use Rattle.arj_world.specs.Stands.{hand}
use Rattle.arj_world.specs.Tells.{TellsStops, nobody}
use Rattle.arj_world.proofs.world.World.settle.Given as goal

abbrev pub invariant-loop-left : goal.invariant-loop-left
invariant-loop-left g l = record {
  goes : GoesPartTo g.C.Core g.D.Disk.file settle (settle_for l.left) (hand l.fn.self l.fn.rack l.fn.journal) (hand l.self l.rack l.journal);
  header : l.self.header ≡ l.fn.self.header;
  disks : HaveMoved g.D.Disk l.fn.self.header.nodes [] l.fn.rack l.rack;
  tells : TellsStops g.D.Disk l.fn.self.header.nodes nobody l.fn.rack l.rack l.fn.journal l.journal;
}

abbrev pub decreases-loop-left : goal.decreases-loop-left
decreases-loop-left g l = l.left
