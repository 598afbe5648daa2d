use Rattle.arj_law_nodes.proofs.nodes.Turning.{closes_move, nodes_move, scripts_move}
use Rattle.arj_law_nodes.proofs.turns.nodes_run_moves.Goals as goal

pub returns-clause-runs : goal.returns-clause-runs
returns-clause-runs g c = nodes_move g.C.Core g.D.Disk

pub returns-clause-scripts : goal.returns-clause-scripts
returns-clause-scripts g c = scripts_move g.C.Core g.D.Disk

pub returns-clause-closes : goal.returns-clause-closes
returns-clause-closes g c = closes_move g.C.Core g.D.Disk
