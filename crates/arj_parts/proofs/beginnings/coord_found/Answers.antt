use Rattle.std.proofs.Common.{◌∙◌, ◌++◌, map, sym, ap}
use Rattle.arj_intent.specs.Records.{entry_of}
use Rattle.arj_naming.specs.Said.{said}
use Rattle.arj_parts.proofs.Again.{same_said, the_records}
use Rattle.arj_protocol.specs.Coord.{new_coord}
use Rattle.arj_protocol.specs.Step.{recovered_records}
use Rattle.arj_parts.proofs.beginnings.coord_found.Goals as goal

pub returns-clause-found : goal.returns-clause-found
returns-clause-found g c = λ all are.
    let is = the_records (g.D.Disk.file c.args.disk.now) (map entry_of c.in_ok-found.found) all c.in_ok-found.ensures.only are in (
      c.in_ok-coord.ensures ∙ ap (λ es. record (new_coord c.args.number c.args.inc) {
        telling =
            es;
      }) (ap (map entry_of) c.as_slice.ensures ∙ sym is),
      c.in_ok-records.ensures ∙ (ap (map entry_of) c.as_slice-2.ensures ∙ sym is),
    )

pub returns-clause-lines : goal.returns-clause-lines
returns-clause-lines g c = λ all are.
    let is = the_records (g.D.Disk.file c.args.disk.now) (map entry_of c.in_ok-found.found) all c.in_ok-found.ensures.only are in
    c.in_ok-found.ensures.lines ∙ ap (λ ls. c.args.lines.now ++ ls) (same_said (recovered_records c.args.number (map entry_of c.in_ok-found.found)) ∙ ap (λ es. said (recovered_records c.args.number es)) (sym is))
