-- what an event makes of the nodes
use Rattle.std.proofs.Common.{Err, [], ◌∷◌, ◌++◌, ap, refl, subst, sym}
use Rattle.arj_world.specs.Stands.{hand}
use Rattle.arj_nodes.specs.AllNodes.{LacksLabels, RanAll, with_event}
use Rattle.arj_nodes.proofs.Turning.{arms_left, moved_by, ran_more, ran_over, ran_still, stands_some}
use Rattle.arj_nodes.proofs.all_nodes.AllNodes.run.Goals as goal

pub step-requires-clause-arms : goal.step-requires-clause-arms
step-requires-clause-arms g c =
    let r = c.requires.ran in
    arms_left g.C.Core g.D.Disk r.0 c.args.self.now.over (hand c.args.self.now.world c.args.rack.now c.args.journal.now) r.1 c.requires.room

pub step-requires-clause-stands : goal.step-requires-clause-stands
step-requires-clause-stands g c =
    let r = c.requires.ran in
    let now = hand c.args.self.now.world c.args.rack.now c.args.journal.now in
    stands_some g.C.Core g.D.Disk r.0 now (subst (λ over. RanAll g.C.Core g.D.Disk r.0 over now) c.requires.going r.1)

pub returns-in-Ok-clause-ran : goal.returns-in-Ok-clause-ran
returns-in-Ok-clause-ran g c t ran =
    let e = c.in-Ok.ensures in
    let old = hand c.args.self.now.world c.args.rack.now c.args.journal.now in
    let new = hand c.step.new.self c.step.new.rack c.step.new.journal in
    subst (λ over. RanAll g.C.Core g.D.Disk (with_event t c.args.event) over new) (sym c.requires.going)
    (ran_more g.C.Core g.D.Disk t c.args.event old new e.ran c.step.ensures.header e.counted c.step.ensures.disks e.stops (subst (λ over. RanAll g.C.Core g.D.Disk t over old) c.requires.going ran))

pub returns-in-Ok-clause-grown : goal.returns-in-Ok-clause-grown
returns-in-Ok-clause-grown g c = let e = c.in-Ok.ensures in (e.counted, e.grown)

pub returns-in-Err-Frames-clause-frames : goal.returns-in-Err-Frames-clause-frames
returns-in-Err-Frames-clause-frames g c _ t ran =
    let is = ap Err c.in-Err-Frames.field-0-is in
    let e = c.in-Err-Frames.ensures in
    let old = hand c.args.self.now.world c.args.rack.now c.args.journal.now in
    ran_over g.C.Core g.D.Disk t c.args.event old (hand c.step.new.self c.step.new.rack c.step.new.journal)
    (e.frames is) c.step.ensures.header (e.counted_over is) c.step.ensures.disks (e.stops_over is) (subst (λ over. RanAll g.C.Core g.D.Disk t over old) c.requires.going ran)

pub returns-in-Err-Frames-clause-overflown : goal.returns-in-Err-Frames-clause-overflown
returns-in-Err-Frames-clause-overflown g c _ =
    let is = ap Err c.in-Err-Frames.field-0-is in
    let e = c.in-Err-Frames.ensures in
    (refl, e.counted_over is, e.grown_over is, e.last is)

pub returns-in-Err-Labels-clause-labels : goal.returns-in-Err-Labels-clause-labels
returns-in-Err-Labels-clause-labels g c _ t ran =
    let is = ap Err c.in-Err-Labels.field-0-is in
    let e = c.in-Err-Labels.ensures in
    let kept = e.kept is in (
      ran_still g.C.Core g.D.Disk t c.args.self.now.over (hand c.args.self.now.world c.args.rack.now c.args.journal.now) (hand c.step.new.self c.step.new.rack c.step.new.journal) kept.0 kept.1 kept.2 ran,
      subst (λ world. LacksLabels g.C.Core world c.args.event) (sym kept.0) (e.labels is),
    )

pub returns-in-Err-Labels-clause-kept : goal.returns-in-Err-Labels-clause-kept
returns-in-Err-Labels-clause-kept g c _ =
    let is = ap Err c.in-Err-Labels.field-0-is in
    let kept = c.in-Err-Labels.ensures.kept is in
    (ap (λ k. k.event) kept.0, c.requires.going, kept.2)

pub returns-in-Ok-clause-moved : goal.returns-in-Ok-clause-moved
returns-in-Ok-clause-moved g c t ran =
    moved_by g.C.Core g.D.Disk t (c.args.event ∷ []) c.args.self.now.over (hand c.args.self.now.world c.args.rack.now c.args.journal.now) c.step.new.rack ran c.step.ensures.disks

pub returns-in-Err-Labels-clause-moved : goal.returns-in-Err-Labels-clause-moved
returns-in-Err-Labels-clause-moved g c t ran =
    moved_by g.C.Core g.D.Disk t (c.args.event ∷ []) c.args.self.now.over (hand c.args.self.now.world c.args.rack.now c.args.journal.now) c.step.new.rack ran c.step.ensures.disks

pub returns-in-Err-Frames-clause-moved : goal.returns-in-Err-Frames-clause-moved
returns-in-Err-Frames-clause-moved g c t ran =
    moved_by g.C.Core g.D.Disk t (c.args.event ∷ []) c.args.self.now.over (hand c.args.self.now.world c.args.rack.now c.args.journal.now) c.step.new.rack ran c.step.ensures.disks

pub returns-in-Err-Memory-clause-moved : goal.returns-in-Err-Memory-clause-moved
returns-in-Err-Memory-clause-moved g c t ran =
    moved_by g.C.Core g.D.Disk t (c.args.event ∷ []) c.args.self.now.over (hand c.args.self.now.world c.args.rack.now c.args.journal.now) c.step.new.rack ran c.step.ensures.disks
