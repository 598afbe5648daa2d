-- so many nodes are done
use Rattle.std.proofs.Common.{[], ◌≡◌}
use Rattle.arj_protocol.specs.Step.{numbers_to}
use Rattle.arj_protocol.specs.World.{tick_all}
use Rattle.arj_world.specs.Disks.{HaveMoved}
use Rattle.arj_world.specs.Goes.{GoesPartTo}
use Rattle.arj_world.specs.Stands.{hand}
use Rattle.arj_world.proofs.Hands.{numbers_left}
use Rattle.arj_world.specs.Tells.{TellsStops, nobody}
use Rattle.arj_world.proofs.world.World.tick_all.Given as goal

abbrev pub invariant-loop-node : goal.invariant-loop-node
invariant-loop-node g l = record {
  count : l.nodes ≡ l.fn.self.header.nodes;
  goes : GoesPartTo g.C.Core g.D.Disk.file (tick_all (numbers_to l.nodes)) (tick_all (numbers_left l.node l.nodes)) (hand l.fn.self l.fn.rack l.fn.journal) (hand l.self l.rack l.journal);
  header : l.self.header ≡ l.fn.self.header;
  disks : HaveMoved g.D.Disk l.fn.self.header.nodes [] l.fn.rack l.rack;
  tells : TellsStops g.D.Disk l.fn.self.header.nodes nobody l.fn.rack l.rack l.fn.journal l.journal;
}
