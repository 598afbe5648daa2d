-- so many nodes are there
use Rattle.std.proofs.Common.{◌≡◌, length}
use Rattle.arj_world.proofs.Adopted.{AreDown}
use Rattle.arj_world.proofs.world.World.adopt.Given as goal

abbrev pub invariant-loop-node : goal.invariant-loop-node
invariant-loop-node g l = record {
  downs : AreDown g.C.Core l.header l.cores.items;
  count : length l.cores.items ≡ l.node;
}
