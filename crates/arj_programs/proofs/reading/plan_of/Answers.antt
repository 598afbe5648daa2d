-- where reading ended
use Rattle.std.proofs.Common.{◌≡◌, ◌∙◌, ℕ, List, Err, subst, sym}
use Rattle.arj_lines.specs.Reading.{IsAtLine, IsPastLine}
use Rattle.arj_programs.proofs.Readings.{reads_long, reads_plan, reads_unknown}
use Rattle.arj_programs.specs.Input.{Reads}
use Rattle.arj_programs.specs.Taking.{IsAt, StopsAt}
use Rattle.arj_programs.specs.declared.taking.Refusal.TheVariants as refusal
use Rattle.arj_script.specs.Input.{AtEnd, lines_of}
use Rattle.arj_script.specs.declared.limits.TheConstants.{LINE_BYTES}
use Rattle.arj_programs.proofs.reading.plan_of.Goals as goal

pub returns-in-Some : goal.returns-in-Some
returns-in-Some c given e =
    let ends : (given.stopped ≡ AtEnd) × IsAt (lines_of AtEnd given.came) c.args.taking.now = rw c.in-End.is at e in
    reads_plan c.plans_are_fit.ensures given c.args.taking.now c.in-Some.plan (sym c.take.ensures.value ∙ c.in-Some.is) ends.0 ends.1

pub returns-in-TooLong : goal.returns-in-TooLong
returns-in-TooLong c given e =
    let ends : (done : List (List ℕ)) × IsAt done c.args.taking.now × IsPastLine given done LINE_BYTES = rw c.in-TooLong.is at e in
    subst (λ s. Reads given (Err s)) (sym c.bad_line-in-TooLong.ensures) (reads_long given c.args.taking.now ends.0 ends.1 ends.2)

pub returns-in-Stopped-Unknown : goal.returns-in-Stopped-Unknown
returns-in-Stopped-Unknown c given e =
    let one : (done : List (List ℕ)) × (line : List ℕ) × StopsAt done line c.in-Stopped-Unknown.field-0 c.args.taking.now
    × IsAtLine given done line = rw c.in-Stopped-Unknown.is at e in
    let is : c.in-Stopped-Unknown.field-0 ≡ refusal.Unknown = rw c.in-Stopped-Unknown.is at c.in-Stopped-Unknown.field-0-is in
    let ends : (done : List (List ℕ)) × (line : List ℕ) × StopsAt done line refusal.Unknown c.args.taking.now × IsAtLine given done line =
    subst (λ why. (done : List (List ℕ)) × (line : List ℕ) × StopsAt done line why c.args.taking.now × IsAtLine given done line) is one in
    subst (λ s. Reads given (Err s)) (sym c.bad_line-in-Stopped-Unknown.ensures)
    (reads_unknown given c.args.taking.now ends.0 ends.1 ends.2 ends.3)
