-- the balances so far
use Rattle.std.proofs.Common.{◌≡◌, []}
use Rattle.arj_gen.specs.declared.bank.TheConstants.{NODES}
use Rattle.arj_bank.specs.Balances.{AddUpTo, held_by, node_files, node_holds, reader}
use Rattle.arj_world.specs.Disks.{HaveMoved, HaveNotStopped}
use Rattle.arj_bank.proofs.balances.sum.Given as goal

abbrev pub invariant-loop-k : goal.invariant-loop-k
invariant-loop-k g l = record {
  adds : AddUpTo (node_holds (reader g.D.Disk (held_by g.O.ObjectStore)) l.fn.rack) l.k l.sum;
  files : node_files g.D.Disk.file l.rack ≡ node_files g.D.Disk.file l.fn.rack;
  moved : HaveMoved g.D.Disk NODES [] l.fn.rack l.rack;
  unstopped : HaveNotStopped g.D.Disk l.fn.rack l.rack;
}
