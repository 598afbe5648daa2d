-- where reading ended at a line
use Rattle.std.proofs.Common.{◌≡◌, ℕ, List, subst}
use Rattle.arj_auditing.proofs.Findings.{finds_long, finds_unknown}
use Rattle.arj_auditing.specs.Taking.{IsAt, StopsAt, most_at}
use Rattle.arj_auditing.specs.declared.intake.Stop.TheVariants as stop
use Rattle.arj_lines.specs.Reading.{IsAtLine, IsPastLine}
use Rattle.arj_auditing.proofs.auditing.finding_of.Goals as goal

pub returns-in-TooLong : goal.returns-in-TooLong
returns-in-TooLong c given e =
    let ends : (done : List (List ℕ)) × IsAt done c.args.intake × IsPastLine given done (most_at c.args.intake) =
    rw c.in-TooLong.is at e in
    finds_long given ends.0 c.args.intake c.bad_line.result c.bad_line.ensures ends.1 ends.2

pub returns-in-Stopped-Unknown : goal.returns-in-Stopped-Unknown
returns-in-Stopped-Unknown c given e =
    let one : (done : List (List ℕ)) × (line : List ℕ) × StopsAt done line c.in-Stopped-Unknown.field-0 c.args.intake × IsAtLine given done line = rw c.in-Stopped-Unknown.is at e in
    let is : c.in-Stopped-Unknown.field-0 ≡ stop.Unknown = rw c.in-Stopped-Unknown.is at c.in-Stopped-Unknown.field-0-is in
    let ends : (done : List (List ℕ)) × (line : List ℕ) × StopsAt done line stop.Unknown c.args.intake × IsAtLine given done line =
    subst (λ why. (done : List (List ℕ)) × (line : List ℕ) × StopsAt done line why c.args.intake × IsAtLine given done line) is one in
    finds_unknown given ends.0 ends.1 c.args.intake c.bad_line-in-Stopped-Unknown.result c.bad_line-in-Stopped-Unknown.ensures ends.2 ends.3
