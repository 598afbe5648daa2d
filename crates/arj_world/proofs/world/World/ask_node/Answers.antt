use Rattle.std.specs.Prelude.{OnOk}
use Rattle.std.proofs.Common.{subst}
use Rattle.std.proofs.lemmas.Result.{on_ok_weaker}
use Rattle.arj_core.specs.Steps.{input_of}
use Rattle.arj_protocol.specs.World.{steps}
use Rattle.arj_world.specs.Goes.{GoesTo}
use Rattle.arj_world.specs.Stands.{hand}
use Rattle.arj_world.proofs.Hands.{goes_not, goes_step}
use Rattle.arj_world.specs.Tells.{TellsStops, crashed_at}
use Rattle.arj_world.proofs.world.World.ask_node.Goals as goal

pub returns-in-Some-clause-goes : goal.returns-in-Some-clause-goes
returns-in-Some-clause-goes g c =
    let n = c.in-Some.ensures in
    let old = hand c.args.self.now c.args.rack.now c.args.journal.now in
    let new = hand c.step_core.new.self c.step_core.new.rack c.step_core.new.journal in
    on_ok_weaker c.step_core.result
    (λ to. subst (λ m. GoesTo g.C.Core g.D.Disk.file (steps m (input_of c.args.input)) old new) n.0 (goes_step g.C.Core g.D.Disk.file c.in-Some.n (input_of c.args.input) old new n.1 n.2 c.requires.other to))
    c.step_core.ensures.steps

pub returns-in-None-clause-goes : goal.returns-in-None-clause-goes
returns-in-None-clause-goes g c =
    goes_not g.C.Core g.D.Disk.file c.args.node (input_of c.args.input) (hand c.args.self.now c.args.rack.now c.args.journal.now) c.in-None.ensures

pub returns-in-Some-clause-tells : goal.returns-in-Some-clause-tells
returns-in-Some-clause-tells g c =
    let n = c.in-Some.ensures in
    subst (λ m. OnOk c.step_core.result (TellsStops g.D.Disk c.args.self.now.header.nodes (crashed_at m (input_of c.args.input)) c.args.rack.now c.step_core.new.rack c.args.journal.now c.step_core.new.journal)) n.0 c.step_core.ensures.tells
