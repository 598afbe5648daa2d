use Rattle.std.proofs.Common.{◌∙◌, ap, refl, sym, subst}
use Rattle.std.specs.Prelude.{MatchBool}
use Rattle.arj_audit.specs.Calm.{HasFindings}
use Rattle.arj_clean.specs.Clean.{AreClean}
use Rattle.arj_clean.specs.Standing.{IsSaved}
use Rattle.arj_model.specs.Last.{first_values}
use Rattle.arj_model.specs.Serial.{Serial}
use Rattle.arj_reading.specs.Readable.{Readable}
use Rattle.arj_reading.specs.Reading.{HasRead}
use Rattle.arj_saved.specs.Files.{is_quiet}
use Rattle.arj_saved.specs.Saved.{AreKept, disks_of, pendings_in, segments_in}
use Rattle.arj_audit.proofs.judging.found.Goals as goal

pub returns : goal.returns
returns c = λ readable has.
    let image = c.args.image.now in
    let header = image.header in
    let disks = disks_of image.files in
    let js = c.as_slice-lines.ensures in
    let fs = c.as_slice-files.ensures in
    let saved : IsSaved header c.as_slice-lines.result.now c.in_ok-standing.standing c.as_slice.result.now c.as_slice-2.result.now image.files = record {
      readable = subst (Readable header) (sym js) readable;
      stands = c.in_ok-standing.ensures;
      segments = subst (AreKept (segments_in image.files)) (sym c.as_slice.ensures.value) (subst (λ ls. AreKept (segments_in ls) c.in_ok-segments.segments.items) fs c.in_ok-segments.ensures);
      pendings = subst (AreKept (pendings_in image.files)) (sym c.as_slice-2.ensures.value) (subst (λ ls. AreKept (pendings_in ls) c.in_ok-pendings.pendings.items) fs c.in_ok-pendings.ensures);
    } in
    let serial = subst (λ ls. MatchBool c.in_ok-serial.serial (Serial (first_values header) ls) (Serial (first_values header) ls → ⊥)) js
    (c.in_ok-serial.ensures (subst (Readable header) (sym js) readable) (subst (λ ls. HasRead ls c.args.reading.now) (sym js) has)) in
    let clean = subst (λ ls. MatchBool c.in_ok-clean.clean (AreClean header ls disks) (AreClean header ls disks → ⊥)) js (c.in_ok-clean.ensures image.files saved) in
    let made : HasFindings image (record { serial = c.in_ok-serial.serial; clean = c.in_ok-clean.clean; quiet = c.is_quiet.result; calm = c.in_ok-calm.calm }) = record {
      serial = serial;
      clean = clean;
      quiet = c.is_quiet.ensures ∙ ap is_quiet fs;
      calm = c.in_ok-calm.ensures saved refl js has clean;
    } in made
