use Rattle.std.proofs.Common.{◌≡◌, ◌∙◌, false, refl, sym, ap}
use Rattle.std.proofs.lemmas.Result.{on_ok_weaker}
use Rattle.arj_protocol.specs.Step as input
use Rattle.arj_world.specs.Stands.{hand}
use Rattle.arj_world.proofs.Hands.{goes_step, tick_down, tick_goes}
use Rattle.arj_world.proofs.world.World.tick_up.Goals as goal

pub returns-then-not-is_up-clause-goes : goal.returns-then-not-is_up-clause-goes
returns-then-not-is_up-clause-goes g c =
    let fits : c.args.self.now.full ≡ false = sym (ap (λ k. k.full) c.self.view_is) ∙ c.if-self.false in
    tick_down g.C.Core g.D.Disk.file c.args.node (hand c.args.self.now c.args.rack.now c.args.journal.now) fits c.requires.least c.requires.greatest c.if-not-is_up.ensures

pub returns-clause-goes : goal.returns-clause-goes
returns-clause-goes g c =
    let fits : c.args.self.now.full ≡ false = sym (ap (λ k. k.full) c.self.view_is) ∙ c.if-self.false in
    let old = hand c.args.self.now c.args.rack.now c.args.journal.now in
    let new = hand c.step_core.new.self c.step_core.new.rack c.step_core.new.journal in
    on_ok_weaker c.step_core.result
    (λ to. tick_goes g.C.Core g.D.Disk.file c.args.node old new fits c.requires.least c.requires.greatest c.if-not-is_up.ensures
    (goes_step g.C.Core g.D.Disk.file c.args.node input.Tick old new c.requires.least c.requires.greatest refl to))
    c.step_core.ensures.steps

pub returns-clause-tells : goal.returns-clause-tells
returns-clause-tells g c = c.step_core.ensures.tells
