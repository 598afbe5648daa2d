use Rattle.std.proofs.Common.{subst}
use Rattle.std.proofs.lemmas.Result.{on_ok_weaker}
use Rattle.arj_protocol.specs.Step as input
use Rattle.arj_protocol.specs.World.{steps}
use Rattle.arj_world.specs.Goes.{BeginsTo}
use Rattle.arj_world.specs.Stands.{hand}
use Rattle.arj_world.proofs.Begins.{begins_restart}
use Rattle.arj_world.proofs.Hands.{goes_not}
use Rattle.arj_world.proofs.Runs.{begins_so}
use Rattle.arj_world.proofs.world.World.restart.Goals as goal

pub returns-in-Some-clause-begins : goal.returns-in-Some-clause-begins
returns-in-Some-clause-begins g c =
    let n = c.in-Some.ensures in
    let old = hand c.args.self.now c.args.rack.now c.args.journal.now in
    let new = hand c.step_core.new.self c.step_core.new.rack c.step_core.new.journal in
    on_ok_weaker c.step_core.result
    (λ to. subst (λ m. BeginsTo g.C.Core g.D.Disk.file (steps m input.Restart) old new) n.0 (begins_restart g.C.Core g.D.Disk.file c.in-Some.n old new n.1 n.2 to))
    c.step_core.ensures.steps

pub returns-in-None-clause-begins : goal.returns-in-None-clause-begins
returns-in-None-clause-begins g c =
    let old = hand c.args.self.now c.args.rack.now c.args.journal.now in
    begins_so g.C.Core g.D.Disk.file (steps c.args.node input.Restart) old old (goes_not g.C.Core g.D.Disk.file c.args.node input.Restart old c.in-None.ensures)

pub returns-in-Some-clause-tells : goal.returns-in-Some-clause-tells
returns-in-Some-clause-tells g c = c.step_core.ensures.tells
