use Rattle.std.proofs.Common.{◌≡◌, ◌∙◌, ◌∷◌, ◌++◌, [], Some, ap, subst, refl}
use Rattle.std.proofs.lemmas.Result.{on_ok_weaker}
use Rattle.arj_protocol.specs.Words.body
use Rattle.arj_protocol.specs.Words.event as events
use Rattle.arj_protocol.specs.World.{numbered}
use Rattle.arj_world.specs.Disks.{HaveMoved}
use Rattle.arj_world.specs.Happens.{HappensTo, done}
use Rattle.std.specs.Prelude.{slice_set, ◌-◌}
use Rattle.arj_world.specs.Stands.{hand}
use Rattle.arj_world.proofs.Armed.{happens_armed}
use Rattle.arj_world.proofs.Disks.{moved_armed}
use Rattle.arj_world.proofs.Tells.{tells_armed}
use Rattle.arj_world.proofs.world.World.arm.Goals as goal

pub returns-clause-happens : goal.returns-clause-happens
returns-clause-happens g c =
    let n = c.in-Some.ensures in
    let old = hand c.args.self.now c.args.rack.now c.args.journal.now in
    let new = hand c.args.self.now (slice_set c.args.rack.now (c.in-Some.n - 1) c.arm.new.self) c.say.new.journal in
    on_ok_weaker c.say.result
    (λ (said : c.say.new.journal ≡ c.args.journal.now ++ numbered c.self.inside.wire.event (body.Armed c.in-Some.n ∷ [])).
    subst (λ m. HappensTo g.C.Core g.D.Disk.file (done (events.Stop m c.args.calls c.args.kind)) old new) n.0
    (happens_armed g.C.Core g.D.Disk.file c.in-Some.n c.args.calls c.args.kind c.disk.result.now c.arm.new.self old c.say.new.journal n.1 n.2 c.disk.ensures.value c.arm.ensures.files
    (said ∙ (λ i. c.args.journal.now ++ numbered (ap (λ k. k.event) c.self.view_is i) (body.Armed c.in-Some.n ∷ [])))))
    c.say.ensures

pub returns-clause-disks : goal.returns-clause-disks
returns-clause-disks g c =
    let n = c.in-Some.ensures in
    subst (λ m. HaveMoved g.D.Disk c.args.self.now.header.nodes (events.Stop m c.args.calls c.args.kind ∷ []) c.args.rack.now (slice_set c.args.rack.now (c.in-Some.n - 1) c.arm.new.self)) n.0
    (moved_armed g.D.Disk c.args.self.now.header.nodes c.in-Some.n c.args.calls c.args.kind c.args.rack.now c.disk.result.now c.arm.new.self n.1 n.2 c.disk.ensures.value c.arm.ensures.stops c.arm.ensures.arms
    (c.arm.ensures.last_arm ∙ (λ i. Some (c.args.calls, c.outcome_of.ensures i))))

pub returns-clause-tells : goal.returns-clause-tells
returns-clause-tells g c = on_ok_weaker c.say.result
    (tells_armed g.D.Disk c.args.self.now.header.nodes c.in-Some.n c.args.rack.now c.disk.result.now c.arm.new.self c.args.journal.now c.say.new.journal c.self.inside.wire.event (body.Armed c.in-Some.n) c.in-Some.ensures.1 c.in-Some.ensures.2 c.disk.ensures.value c.arm.ensures.stops refl)
    c.say.ensures
