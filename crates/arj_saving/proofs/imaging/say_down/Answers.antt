-- the files of stopped nodes
use Rattle.std.proofs.Common.{Err, ap, refl, subst}
use Rattle.arj_journal.specs.declared.header.Header.{Header}
use Rattle.arj_nodes.specs.AsMachine.{all_nodes}
use Rattle.arj_saving.proofs.Behind.{says_files}
use Rattle.arj_saving.specs.Gathered.{HaveBeenRead}
use Rattle.arj_saving.specs.Stops.{moment}
use Rattle.arj_saving.proofs.imaging.say_down.Goals as goal

pub returns-in-Ok-say_image : goal.returns-in-Ok-say_image
returns-in-Ok-say_image g c =
    says_files (all_nodes g.C.Core g.D.Disk) g.D.Disk c.args.nodes.now.world.header c.header-header.result.now (moment c.args.rack.now c.args.nodes.now c.args.journal.now) c.files_of.new.rack
    c.say_image.new.journal c.steps_of-events.result c.in-Ok.files c.in-Ok-say_image.said c.header-header.ensures.header c.steps_of-events.ensures c.in-Ok.ensures.files
    c.files_of.ensures.read c.in-Ok.ensures.unstopped c.in-Ok-say_image.ensures

pub returns-in-Ok : goal.returns-in-Ok
returns-in-Ok g c =
    subst (λ (h : Header). HaveBeenRead g.D.Disk h.nodes c.args.rack.now c.files_of.new.rack) c.header-header.ensures.header c.files_of.ensures.read

pub returns-in-Err-Stopped : goal.returns-in-Err-Stopped
returns-in-Err-Stopped g c = (
  subst (λ (h : Header). HaveBeenRead g.D.Disk h.nodes c.args.rack.now c.files_of.new.rack) c.header-header.ensures.header c.files_of.ensures.read,
  c.in-Err-Stopped.ensures.stopped (ap Err c.in-Err-Stopped.field-0-is),
  refl,
)

pub returns : goal.returns
returns g c =
    subst (λ (h : Header). HaveBeenRead g.D.Disk h.nodes c.args.rack.now c.files_of.new.rack) c.header-header.ensures.header c.files_of.ensures.read
