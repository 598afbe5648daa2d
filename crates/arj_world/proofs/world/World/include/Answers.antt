use Rattle.std.proofs.Common.{subst}
use Rattle.std.proofs.lemmas.Result.{on_ok_weaker}
use Rattle.arj_protocol.specs.Step as inputs
use Rattle.arj_protocol.specs.World.{node_of, steps}
use Rattle.arj_world.specs.Goes.{GoesTo}
use Rattle.arj_world.specs.Stands.{hand}
use Rattle.arj_world.proofs.world.World.include.Goals as goal

pub returns-clause-goes : goal.returns-clause-goes
returns-clause-goes g c =
    let old = hand c.args.self.now c.args.rack.now c.args.journal.now in
    let new = hand c.ask.new.self c.ask.new.rack c.ask.new.journal in
    on_ok_weaker c.ask.result
    (λ goes. subst (λ m. GoesTo g.C.Core g.D.Disk.file (λ w. steps (node_of c.args.label w) (inputs.Include c.args.label c.args.x m) w) old new) c.in-Some.ensures.0 goes)
    c.ask.ensures.goes
