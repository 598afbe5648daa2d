-- an image was read
use Rattle.std.proofs.Common.{◌∙◌, subst, sym}
use Rattle.arj_auditing.proofs.Findings.{finds_judged, place_is}
use Rattle.arj_auditing.specs.Parts.{IsFront}
use Rattle.arj_script.specs.Input.{AtEnd, lines_of}
use Rattle.arj_auditing.proofs.auditing.whole.Goals as goal

pub returns-in-Some : goal.returns-in-Some
returns-in-Some c given end at =
    let place = place_is c.args.intake.reader c.in-Some.image (sym c.in-Some.is ∙ c.finish.ensures) in
    finds_judged given c.in-Some.image c.judged.result (end, subst (IsFront (lines_of AtEnd given.came)) place at.front) c.judged.ensures.judges c.judged.ensures.memory
