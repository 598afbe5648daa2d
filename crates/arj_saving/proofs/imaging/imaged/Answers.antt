-- what the run leaves
use Rattle.std.proofs.Common.{◌∙◌, Err, ap, refl, subst, take}
use Rattle.arj_io.specs.Told.{Takes}
use Rattle.arj_loop.specs.Replayed.{answer, outside}
use Rattle.arj_loop.specs.Running.{held_by}
use Rattle.arj_nodes.specs.AsMachine.{all_nodes}
use Rattle.arj_saving.proofs.Ends.{read_failed}
use Rattle.arj_saving.proofs.Saids.{saves_disk, saves_front, saves_memory, saves_read, saves_wrote, status_fits}
use Rattle.arj_saving.specs.Comes.{ComesOf}
use Rattle.arj_saving.proofs.imaging.imaged.Goals as goal

pub returns-in-Ok-write_all-clause-saves : goal.returns-in-Ok-write_all-clause-saves
returns-in-Ok-write_all-clause-saves g c =
    let e = c.say.ensures in
    saves_wrote (all_nodes g.C.Core g.D.Disk) g.D.Disk e.0 (outside (g.S.Source.left c.args.source.now) (g.S.Source.faults c.args.source.now) (g.K.Sink.taken c.args.sink.now) c.args.rack.now)
    (outside (g.S.Source.left c.say.new.source) (g.S.Source.faults c.say.new.source) (g.K.Sink.taken c.write_all.new.sink) c.say.new.rack)
    (answer c.in-Ok.said.status c.say.new.why c.say.new.journal c.say.new.nodes) e.1 c.in-Ok.said
    (subst (λ r. ComesOf (all_nodes g.C.Core g.D.Disk) g.D.Disk e.0 c.args.rack.now (held_by c.say.new.rack c.say.new.nodes c.say.new.journal) c.say.new.why r) (c.in-Ok.is) e.2) refl
    (subst (λ text. Takes (g.K.Sink.taken c.args.sink.now) text (g.K.Sink.taken c.write_all.new.sink)) c.as_slice.ensures c.in-Ok-write_all.ensures.took)

pub returns-in-Ok-write_all-clause-statuses : goal.returns-in-Ok-write_all-clause-statuses
returns-in-Ok-write_all-clause-statuses g c =
    let e = c.say.ensures in
    let fits = status_fits (all_nodes g.C.Core g.D.Disk) g.D.Disk e.0 c.args.rack.now (held_by c.say.new.rack c.say.new.nodes c.say.new.journal) c.say.new.why c.in-Ok.said
    (subst (λ r. ComesOf (all_nodes g.C.Core g.D.Disk) g.D.Disk e.0 c.args.rack.now (held_by c.say.new.rack c.say.new.nodes c.say.new.journal) c.say.new.why r) (c.in-Ok.is) e.2) in
    (fits.0, fits.1)

pub returns-in-Ok-write_all-clause-read_fault : goal.returns-in-Ok-write_all-clause-read_fault
returns-in-Ok-write_all-clause-read_fault g c three =
    let e = c.say.ensures in
    let fits = status_fits (all_nodes g.C.Core g.D.Disk) g.D.Disk e.0 c.args.rack.now (held_by c.say.new.rack c.say.new.nodes c.say.new.journal) c.say.new.why c.in-Ok.said
    (subst (λ r. ComesOf (all_nodes g.C.Core g.D.Disk) g.D.Disk e.0 c.args.rack.now (held_by c.say.new.rack c.say.new.nodes c.say.new.journal) c.say.new.why r) (c.in-Ok.is) e.2) in
    absurd (fits.2 three)

pub returns-in-Ok-clause-saves : goal.returns-in-Ok-clause-saves
returns-in-Ok-clause-saves g c =
    let e = c.say.ensures in
    let front = c.in-Err.ensures.front in
    saves_front (all_nodes g.C.Core g.D.Disk) g.D.Disk e.0 (outside (g.S.Source.left c.args.source.now) (g.S.Source.faults c.args.source.now) (g.K.Sink.taken c.args.sink.now) c.args.rack.now)
    (outside (g.S.Source.left c.say.new.source) (g.S.Source.faults c.say.new.source) (g.K.Sink.taken c.write_all.new.sink) c.say.new.rack)
    (answer 4 c.say.new.why c.say.new.journal c.say.new.nodes) e.1 c.in-Ok.said
    (subst (λ r. ComesOf (all_nodes g.C.Core g.D.Disk) g.D.Disk e.0 c.args.rack.now (held_by c.say.new.rack c.say.new.nodes c.say.new.journal) c.say.new.why r) (c.in-Ok.is) e.2) refl front.0
    (subst (λ text. Takes (g.K.Sink.taken c.args.sink.now) (take front.0 text) (g.K.Sink.taken c.write_all.new.sink)) c.as_slice.ensures front.2)

pub returns-in-Err-Read-clause-saves : goal.returns-in-Err-Read-clause-saves
returns-in-Err-Read-clause-saves g c =
    let e = c.say.ensures in
    saves_read (all_nodes g.C.Core g.D.Disk) g.D.Disk e.0 (outside (g.S.Source.left c.args.source.now) (g.S.Source.faults c.args.source.now) (g.K.Sink.taken c.args.sink.now) c.args.rack.now)
    (outside (g.S.Source.left c.say.new.source) (g.S.Source.faults c.say.new.source) (g.K.Sink.taken c.args.sink.now) c.say.new.rack)
    (answer 3 c.say.new.why c.say.new.journal c.say.new.nodes) e.1
    (subst (λ r. ComesOf (all_nodes g.C.Core g.D.Disk) g.D.Disk e.0 c.args.rack.now (held_by c.say.new.rack c.say.new.nodes c.say.new.journal) c.say.new.why r) (c.in-Err-Read.is ∙ ap Err c.in-Err-Read.field-0-is) e.2) refl refl

pub returns-in-Err-Read-clause-read_fault : goal.returns-in-Err-Read-clause-read_fault
returns-in-Err-Read-clause-read_fault g c three =
    let e = c.say.ensures in
    let cut = subst (λ r. ComesOf (all_nodes g.C.Core g.D.Disk) g.D.Disk e.0 c.args.rack.now (held_by c.say.new.rack c.say.new.nodes c.say.new.journal) c.say.new.why r) (c.in-Err-Read.is ∙ ap Err c.in-Err-Read.field-0-is) e.2 in
    read_failed (all_nodes g.C.Core g.D.Disk) e.0 c.args.rack.now (held_by c.say.new.rack c.say.new.nodes c.say.new.journal) _ _ e.1 cut

pub returns-in-Err-Disk-clause-saves : goal.returns-in-Err-Disk-clause-saves
returns-in-Err-Disk-clause-saves g c =
    let e = c.say.ensures in
    saves_disk (all_nodes g.C.Core g.D.Disk) g.D.Disk e.0 (outside (g.S.Source.left c.args.source.now) (g.S.Source.faults c.args.source.now) (g.K.Sink.taken c.args.sink.now) c.args.rack.now)
    (outside (g.S.Source.left c.say.new.source) (g.S.Source.faults c.say.new.source) (g.K.Sink.taken c.args.sink.now) c.say.new.rack)
    (answer 7 c.say.new.why c.say.new.journal c.say.new.nodes) e.1
    (subst (λ r. ComesOf (all_nodes g.C.Core g.D.Disk) g.D.Disk e.0 c.args.rack.now (held_by c.say.new.rack c.say.new.nodes c.say.new.journal) c.say.new.why r) (c.in-Err-Disk.is ∙ ap Err c.in-Err-Disk.field-0-is) e.2) refl refl

pub returns-clause-saves : goal.returns-clause-saves
returns-clause-saves g c =
    let e = c.say.ensures in
    saves_memory (all_nodes g.C.Core g.D.Disk) g.D.Disk e.0 (outside (g.S.Source.left c.args.source.now) (g.S.Source.faults c.args.source.now) (g.K.Sink.taken c.args.sink.now) c.args.rack.now)
    (outside (g.S.Source.left c.say.new.source) (g.S.Source.faults c.say.new.source) (g.K.Sink.taken c.args.sink.now) c.say.new.rack)
    (answer 5 c.say.new.why c.say.new.journal c.say.new.nodes) e.1
    (subst (λ r. ComesOf (all_nodes g.C.Core g.D.Disk) g.D.Disk e.0 c.args.rack.now (held_by c.say.new.rack c.say.new.nodes c.say.new.journal) c.say.new.why r) (c.in-Err-Memory.is ∙ ap Err c.in-Err-Memory.field-0-is) e.2) refl refl
