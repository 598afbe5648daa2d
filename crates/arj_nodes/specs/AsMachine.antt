-- All nodes as a machine of the loop.
use Rattle.arj_core.specs.declared.node.Core as core
use Rattle.arj_disk.specs.declared.disk.Disk as disk
use Rattle.arj_loop.specs.declared.machine.Machine as machine
use Rattle.arj_nodes.specs.AllNodes.{AreFresh, LacksLabels, RanAll, task}
use Rattle.arj_nodes.specs.declared.all_nodes.AllNodes.{AllNodes}
use Rattle.arj_world.specs.Disks.{HasStopped, HaveMoved}
use Rattle.arj_world.specs.Stands.{hand}

-- all nodes, as the loop asks of a machine
abbrev pub all_nodes : {C D : Type 0} → core.Ghosts C → disk.Ghosts D → machine.Ghosts (AllNodes C) D
all_nodes c d = record {
  ready = AreFresh d;
  ran = λ first header events rack journal nodes. RanAll c d (task first header events) nodes.over (hand nodes.world rack journal);
  steps = λ nodes. nodes.world.event;
  is_full = λ header e rack nodes. LacksLabels c nodes.world e;
  moved = λ header events old new. HaveMoved d header.nodes events old new;
  stopped = HasStopped d;
  over = λ nodes. nodes.over;
}
