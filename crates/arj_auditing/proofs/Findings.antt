-- What is found where reading ended, and what it leaves.
use Rattle.std.specs.Prelude.{Result, Ok, Err, IfOk, IfErr}
use Rattle.std.proofs.Common.{◌≡◌, ℕ, ◌+◌, List, Bool, true, false, cond, Some, None, refl, sym, ◌∙◌, ap, subst, arith}
use Rattle.arj_auditing.specs.Audits.{Audits, Writes}
use Rattle.arj_auditing.specs.Found.{Finds, FindsOrFails, IsBadBehind, IsImage, Judges, calm_status, finding_status}
use Rattle.arj_auditing.specs.declared.auditing.Failure.{Failure}
use Rattle.arj_auditing.specs.declared.auditing.Failure.TheVariants as failure
use Rattle.arj_auditing.specs.Taking.{IsAt, StopsAt, most_at}
use Rattle.arj_auditing.specs.declared.finding.Finding.{Finding}
use Rattle.arj_auditing.specs.declared.finding.Finding.TheVariants as finding
use Rattle.arj_auditing.specs.declared.intake.Intake.{Intake}
use Rattle.arj_auditing.specs.declared.intake.Stop.TheVariants as stop
use Rattle.arj_checking.specs.Checks.{Ends}
use Rattle.arj_image.specs.Grammar.{is_whole, most_bytes, whole}
use Rattle.arj_image.specs.Written.{whole_place}
use Rattle.arj_image.specs.declared.image.Image.{Image}
use Rattle.arj_image.specs.declared.place.Place.{Place}
use Rattle.arj_image.specs.declared.place.Stage.{Stage}
use Rattle.arj_image.specs.declared.place.Stage.TheVariants as stage
use Rattle.arj_lines.specs.Reading.{Gave, Input, IsAtLine, IsPastLine}
use Rattle.arj_loop.specs.Input.{source_view}
use Rattle.arj_loop.specs.declared.ending.BadLine.{BadLine}
use Rattle.arj_loop.specs.declared.ending.BadLine.TheVariants as why
use Rattle.arj_script.specs.Input.{AtEnd, lines_of}

-- the line behind those that were taken is bad
pub finds_bad : (given : Input) (done : List (List ℕ)) (taken : Intake) (found : Finding) (w : BadLine) → found ≡ finding.Bad (taken.lines + 1) w →
    IsAt done taken → IsBadBehind given done taken.reader w → Finds given found
finds_bad given done taken found w is at bad =
    subst (Finds given) (sym is) (done, taken.reader, ap (λ n. n + 1) at.lines_are, at.front, bad)

most_is : (b : Bool) (s : Stage) → b ≡ is_whole s → cond b 200000 1100 ≡ most_bytes s
most_is b stage.Files is = (λ i. cond (is i) 200000 1100)
most_is b stage.Start is = (λ i. cond (is i) 200000 1100)
most_is b stage.Objects is = (λ i. cond (is i) 200000 1100)
most_is b stage.Counted is = (λ i. cond (is i) 200000 1100)
most_is b stage.Journal is = (λ i. cond (is i) 200000 1100)

pub finds_long : (given : Input) (done : List (List ℕ)) (taken : Intake) (found : Finding) → found ≡ finding.Bad (taken.lines + 1) why.TooLong →
    IsAt done taken → IsPastLine given done (most_at taken) → Finds given found
finds_long given done taken found is at past =
    let p = taken.reader in
    finds_bad given done taken found why.TooLong is at (subst (IsPastLine given done) (most_is taken.whole p.stage at.whole_is) past)

pub finds_unknown : (given : Input) (done : List (List ℕ)) (line : List ℕ) (taken : Intake) (found : Finding) →
    found ≡ finding.Bad (taken.lines + 1) why.Unknown → StopsAt done line stop.Unknown taken → IsAtLine given done line → Finds given found
finds_unknown given done line taken found is stops at =
    let reason = stops.1 in finds_bad given done taken found why.Unknown is stops.0 (line, at, reason.0, reason.1)

-- there is no image
no_image : (s : Stage) (i : Image) → None ≡ whole s i → is_whole s ≡ false
no_image stage.Files i e = cc e
no_image stage.Start i e = refl
no_image stage.Objects i e = refl
no_image stage.Counted i e = refl
no_image stage.Journal i e = refl

pub finds_missing : (given : Input) (taken : Intake) (found : Finding) → found ≡ finding.Bad (taken.lines + 1) why.Missing →
    None ≡ (let p = taken.reader in whole p.stage p.image) → given.stopped ≡ AtEnd → IsAt (lines_of AtEnd given.came) taken → Finds given found
finds_missing given taken found is none end at =
    let p = taken.reader in
    finds_bad given (lines_of AtEnd given.came) taken found why.Missing is at (end, refl, no_image p.stage p.image none)

-- there is one
the_image : (s : Stage) (i j : Image) → Some j ≡ whole s i → record { stage = s; image = i } ≡ whole_place j
the_image stage.Files i j e = let same : j ≡ i = cc e in (λ k. record { stage = stage.Files; image = sym same k })
the_image stage.Start i j e = cc e
the_image stage.Objects i j e = cc e
the_image stage.Counted i j e = cc e
the_image stage.Journal i j e = cc e

pub place_is : (p : Place) (j : Image) → Some j ≡ whole p.stage p.image → p ≡ whole_place j
place_is p j e = the_image p.stage p.image j e

-- what is found of an image
pub finds_judged : (given : Input) (image : Image) (r : Result Finding Failure) → IsImage given image → IfOk r (Judges image) →
    IfErr r (λ why. why ≡ failure.Memory) → FindsOrFails given r
finds_judged given image (Ok (finding.Bad n w)) is judges memory = absurd judges
finds_judged given image (Ok finding.Long) is judges memory = absurd judges
finds_judged given image (Ok (finding.Unreadable b)) is judges memory = (image, is, judges)
finds_judged given image (Ok (finding.Found f)) is judges memory = (image, is, judges)
finds_judged given image (Err failure.Memory) is judges memory = tt
finds_judged given image (Err failure.Read) is judges memory = cc memory

-- the statuses of what is found
status_not : (f : Finding) (k : ℕ) → (k ≡ 0 → ⊥) → (k ≡ 2 → ⊥) → (k ≡ 6 → ⊥) → (k ≡ 8 → ⊥) → finding_status f ≡ k → ⊥
status_not (finding.Bad n w) k zero two six eight is = two (sym is)
status_not finding.Long k zero two six eight is = six (sym is)
status_not (finding.Unreadable x) k zero two six eight is = eight (sym is)
status_not (finding.Found f) k zero two six eight is = by f.calm is
  where
    by : (c : Bool) → calm_status c ≡ k → ⊥
    by true e = zero (sym e)
    by false e = eight (sym e)

-- what was found was written, or wasn't
pub audits_found : (given : Input) (before after : Ends) (f : Finding) (status : ℕ) →
    Gave (source_view before.left before.faults) (source_view after.left after.faults) given → Finds given f
    → Writes before.taken after.taken f status → Audits before after status
audits_found given before after f status reads finds w =
    let never : (k : ℕ) → (k ≡ 0 → ⊥) → (k ≡ 2 → ⊥) → (k ≡ 6 → ⊥) → (k ≡ 8 → ⊥) → (k ≡ 4 → ⊥) → (k ≡ 5 → ⊥) → status ≡ k → ⊥
    = λ k zero two six eight four five is. let r = w.wrote (λ e. four (sym is ∙ e)) (λ e. five (sym is ∙ e)) in
    status_not f k zero two six eight (sym r.0 ∙ is) in
    record {
      given = given;
      reads = reads;
      found = λ three four five. let r = w.wrote four five in (f, finds, r.0, r.1);
      fault = λ is. absurd (never 3 (λ e. omega (arith, e)) (λ e. omega (arith, e)) (λ e. omega (arith, e)) (λ e. omega (arith, e)) (λ e. omega (arith, e)) (λ e. omega (arith, e)) is);
      write = λ is. let r = w.front is in (f, r.0, finds, r.1);
      memory = w.memory;
      never = (
        λ is. never 1 (λ e. omega (arith, e)) (λ e. omega (arith, e)) (λ e. omega (arith, e)) (λ e. omega (arith, e)) (λ e. omega (arith, e)) (λ e. omega (arith, e)) is,
        λ is. never 7 (λ e. omega (arith, e)) (λ e. omega (arith, e)) (λ e. omega (arith, e)) (λ e. omega (arith, e)) (λ e. omega (arith, e)) (λ e. omega (arith, e)) is,
      );
    }
