use Rattle.std.specs.Prelude.{OnOk, ◌&&◌, ◌==◌}
use Rattle.std.proofs.Common.{subst}
use Rattle.std.proofs.lemmas.Result.{on_ok_weaker}
use Rattle.arj_core.specs.Steps.{input_of}
use Rattle.arj_protocol.specs.World.{steps}
use Rattle.arj_world.specs.Goes.{GoesTo}
use Rattle.arj_world.specs.Stands.{hand}
use Rattle.arj_world.proofs.Begins.{goes_ask}
use Rattle.arj_world.specs.Tells.{TellsStops}
use Rattle.arj_world.proofs.world.World.ask.Goals as goal

pub returns-clause-goes : goal.returns-clause-goes
returns-clause-goes g c =
    let old = hand c.args.self.now c.args.rack.now c.args.journal.now in
    let new = hand c.ask_node.new.self c.ask_node.new.rack c.ask_node.new.journal in
    on_ok_weaker c.ask_node.result
    (λ goes. goes_ask g.C.Core g.D.Disk.file c.args.label c.node_of-node.result (input_of c.args.input) old new c.node_of-node.ensures
    (subst (λ m. GoesTo g.C.Core g.D.Disk.file (steps m (input_of c.args.input)) old new) c.from.ensures goes))
    c.ask_node.ensures.goes

pub returns-clause-tells : goal.returns-clause-tells
returns-clause-tells g c =
    subst (λ b. OnOk c.ask_node.result (TellsStops g.D.Disk c.args.self.now.header.nodes (λ n. b && (n == c.from.result)) c.args.rack.now c.ask_node.new.rack c.args.journal.now c.ask_node.new.journal)) c.requires.live c.ask_node.ensures.tells
