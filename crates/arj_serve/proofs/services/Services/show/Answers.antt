use Rattle.arj_base.specs.Uid.{object}
use Rattle.arj_disk.specs.FileMap.{FileMap}
use Rattle.arj_protocol.specs.Effect.{Disk, holder_of}
use Rattle.arj_protocol.specs.Step.{copy_line, show_entry, shown}
use Rattle.arj_serve.proofs.Looked.{stopped_too}
use Rattle.arj_serve.proofs.Showings.{both_cut}
use Rattle.arj_serve.proofs.services.Services.show.Goals as goal

pub returns-in_err-show_copy-clause-stopped : goal.returns-in_err-show_copy-clause-stopped
returns-in_err-show_copy-clause-stopped g c = λ stop.
    let k = c.args.self.now in
    let x = c.args.x in
    let file : FileMap = g.D.Disk.file c.args.disk.now in
    let middle : FileMap = g.D.Disk.file c.show_entry.new.disk in
    let left : FileMap = g.D.Disk.file c.show_copy.new.disk in
    both_cut g.O.ObjectStore k file middle left c.args.out.now c.show_entry.new.out c.show_copy.new.out (λ (d : Disk). show_entry k.number x d.names) (λ (d : Disk). shown (copy_line k.number x) (object x) d.store (holder_of (object x) d.store))
    c.in_ok-show_entry.ensures.done
    (c.in_err-show_copy.ensures.stopped (stopped_too c.from_residual-in_err-show_copy.result c.in_err-show_copy.field-0.0 c.from_residual-in_err-show_copy.ensures.1 stop))
