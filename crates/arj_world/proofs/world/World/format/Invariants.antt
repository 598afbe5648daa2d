-- so many nodes are formatted
use Rattle.std.proofs.Common.{[], ◌≡◌, length}
use Rattle.arj_world.specs.Disks.{HaveMoved, HaveNotStopped}
use Rattle.arj_world.proofs.First.{Formats}
use Rattle.arj_world.proofs.world.World.format.Given as goal

abbrev pub invariant-loop-node : goal.invariant-loop-node
invariant-loop-node g l = record {
  so : Formats g.C.Core g.D.Disk.file l.header l.fn.rack l.cores.items l.rack;
  count : length l.cores.items ≡ l.node;
  disks : HaveMoved g.D.Disk l.header.nodes [] l.fn.rack l.rack;
  unstopped : HaveNotStopped g.D.Disk l.fn.rack l.rack;
}
