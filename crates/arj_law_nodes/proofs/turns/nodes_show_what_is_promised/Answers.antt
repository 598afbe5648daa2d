use Rattle.arj_law_nodes.proofs.nodes.Turning.{closes_show, runs_show, stops_show}
use Rattle.arj_law_nodes.proofs.turns.nodes_show_what_is_promised.Goals as goal

pub returns-clause-runs : goal.returns-clause-runs
returns-clause-runs g c = runs_show g.C.Core g.D.Disk

pub returns-clause-closes : goal.returns-clause-closes
returns-clause-closes g c = closes_show g.C.Core g.D.Disk

pub returns-clause-stops : goal.returns-clause-stops
returns-clause-stops g c = stops_show g.C.Core g.D.Disk
