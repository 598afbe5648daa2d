use Rattle.arj_law_promise.proofs.settling.Last.{idle_disks_hold}
use Rattle.arj_law_promise.proofs.settles.disks_of_idle_nodes_hold_the_last.Goals as goal

pub returns : goal.returns
returns c = idle_disks_hold
