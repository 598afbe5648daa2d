use Rattle.std.proofs.Common.{◌≡◌, ◌∙◌, ap, sym, Some}
use Rattle.arj_disk.specs.FileMap.{FileMap}
use Rattle.arj_serve.specs.Kept.{Kept}
use Rattle.arj_serve.proofs.Looked.{stopped_too}
use Rattle.arj_serve.proofs.Showings.{entry_cut}
use Rattle.arj_serve.proofs.services.Services.show_entry.Goals as goal

pub returns-in_err-show-clause-stopped : goal.returns-in_err-show-clause-stopped
returns-in_err-show-clause-stopped g c = λ stop.
    let file : FileMap = g.D.Disk.file c.args.disk.now in
    let left : FileMap = g.D.Disk.file c.show.new.disk in
    let was : c.args.self.now.naming ≡ Some c.in-Some.naming =
    sym (ap (λ (k : Kept g.row.O.Denot). k.naming) c.self.view_is) ∙ c.in-Some.is in
    let here = stopped_too c.from_residual.result c.in_err-show.field-0.0 c.from_residual.ensures.1 stop in
    entry_cut g.O.ObjectStore c.args.self.now file left c.show.ensures.files c.args.out.now c.show.new.out c.args.x c.requires.place c.in-Some.naming was (c.in_err-show.ensures.free here) (c.in_err-show.ensures.unsaid here)
