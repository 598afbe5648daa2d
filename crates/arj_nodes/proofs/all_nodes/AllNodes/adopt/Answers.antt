-- the nodes as a run goes on from their disks
use Rattle.arj_world.proofs.Disks.{moved_none, unstopped_none}
use Rattle.arj_nodes.proofs.Turning.{ran_none}
use Rattle.arj_nodes.proofs.all_nodes.AllNodes.adopt.Goals as goal

pub returns-in-Ok-clause-ran : goal.returns-in-Ok-clause-ran
returns-in-Ok-clause-ran g c st rests =
    ran_none g.C.Core g.D.Disk c.args.header st c.in-Ok.world c.args.rack.now c.args.rack.now c.requires.arms (c.in-Ok.ensures.stands st rests)
    (moved_none g.D.Disk c.args.header.nodes c.args.rack.now) (unstopped_none g.D.Disk c.args.rack.now)
