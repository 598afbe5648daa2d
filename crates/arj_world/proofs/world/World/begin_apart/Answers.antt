use Rattle.std.proofs.lemmas.Result.{on_ok_weaker}
use Rattle.arj_world.specs.Stands.{hand}
use Rattle.arj_world.proofs.Begins.{goes_apart}
use Rattle.arj_world.proofs.world.World.begin_apart.Goals as goal

pub returns-clause-goes : goal.returns-clause-goes
returns-clause-goes g c = on_ok_weaker c.begin.result
    (goes_apart g.C.Core g.D.Disk.file c.args.label c.args.parent c.node_of-node.result (hand c.args.self.now c.args.rack.now c.args.journal.now) (hand c.begin.new.self c.begin.new.rack c.begin.new.journal)
    c.node_of-node.ensures)
    c.begin.ensures.goes
