-- What was read, where reading ended.
use Rattle.std.proofs.Common.{◌≡◌, ◌+◌, ℕ, List, refl, ap, subst, Some, None, Ok, Err}
use Rattle.std.specs.Prelude.{IfSome}
use Rattle.arj_journal.specs.ScriptForm.{HeaderInForm}
use Rattle.arj_lines.specs.Reading.{Input, IsAtLine, IsPastLine}
use Rattle.arj_loop.specs.declared.ending.BadLine.TheVariants as why
use Rattle.arj_prog.specs.declared.plan.Plan.{Plan}
use Rattle.arj_programs.specs.Input.{IsFit, IsFront, IsFrontAt, IsPlan, Reads}
use Rattle.arj_programs.specs.Taking.{IsAt, StopsAt}
use Rattle.arj_programs.specs.declared.reading.Stop.TheVariants as stop
use Rattle.arj_programs.specs.declared.taking.Refusal.TheVariants as refusal
use Rattle.arj_programs.specs.declared.taking.Taking.{Taking}
use Rattle.arj_script.specs.Input.{AtEnd, AtFault, ended_lines, lines_of}
use Rattle.arj_script.specs.declared.limits.TheConstants.{LINE_BYTES}

-- plans that were read are fit
abbrev pub PlansAreFit : Type 0
PlansAreFit = (lines : List (List ℕ)) (plan : Plan) → HeaderInForm plan.header → IsPlan lines plan → IsFit plan

pub reads_plan : PlansAreFit → (given : Input) (t : Taking) (plan : Plan) → t.plan ≡ Some plan → given.stopped ≡ AtEnd →
    IsAt (lines_of AtEnd given.came) t → Reads given (Ok plan)
reads_plan fit given t plan is end at =
    let front = at.front in
    let both = subst (λ o. IsFrontAt (lines_of AtEnd given.came) t.reader o) is front.at in
    let header = subst (λ o. IfSome o (λ p. HeaderInForm p.header)) is at.header in
    ((end, both.1), fit (lines_of AtEnd given.came) plan header both.1)

pub reads_missing : (given : Input) (t : Taking) → t.plan ≡ None → given.stopped ≡ AtEnd → IsAt (lines_of AtEnd given.came) t →
    Reads given (Err (stop.Bad (t.lines + 1) why.Missing))
reads_missing given t none end at = (
  lines_of AtEnd given.came,
  ap (λ n. n + 1) at.counted,
  (t.reader, subst (λ o. IsFront (lines_of AtEnd given.came) t.reader o) none at.front, end, refl),
)

pub reads_cut : (given : Input) (t : Taking) → given.stopped ≡ AtFault → IsAt (ended_lines given.came) t → Reads given (Err stop.Fault)
reads_cut given t fault at = (fault, (t.reader, t.plan, at.front))

pub reads_long : (given : Input) (t : Taking) (done : List (List ℕ)) → IsAt done t → IsPastLine given done LINE_BYTES →
    Reads given (Err (stop.Bad (t.lines + 1) why.TooLong))
reads_long given t done at past = (done, ap (λ n. n + 1) at.counted, (t.reader, t.plan, at.front, past))

pub reads_unknown : (given : Input) (t : Taking) (done : List (List ℕ)) (line : List ℕ) → StopsAt done line refusal.Unknown t →
    IsAtLine given done line → Reads given (Err (stop.Bad (t.lines + 1) why.Unknown))
reads_unknown given t done line (at, (few, bad)) here =
    (done, ap (λ n. n + 1) at.counted, (t.reader, t.plan, line, at.front, here, few, bad))

pub reads_many : (given : Input) (t : Taking) (done : List (List ℕ)) (line : List ℕ) → StopsAt done line refusal.Long t →
    IsAtLine given done line → Reads given (Err stop.Long)
reads_many given t done line (at, many) here = (done, t.reader, t.plan, line, at.front, here, many)
