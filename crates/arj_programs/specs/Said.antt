-- What is said of an input, or why nothing is.
use Rattle.std.specs.Prelude.{◌≡◌, ◌⊎◌, List, [], ◌∷◌, Option, Some, None, Result, Ok, Err}
use Rattle.arj_journal.specs.LineText.{line_text}
use Rattle.arj_journal.specs.declared.body.Body.TheVariants as body
use Rattle.arj_journal.specs.declared.body.Line.{Line}
use Rattle.arj_journal.specs.declared.body.Which.TheVariants as which
use Rattle.arj_lines.specs.Reading.{Input}
use Rattle.arj_loop.specs.declared.ending.BadLine.{BadLine}
use Rattle.arj_loop.specs.declared.machine.Machine.{Ghosts}
use Rattle.arj_prog.specs.declared.plan.Plan.{Plan}
use Rattle.arj_programs.specs.Input.{IsCutOff, IsWhole}
use Rattle.arj_programs.specs.Outcome.{Says, SaysLast, outside_line}
use Rattle.arj_programs.specs.Runs.{ComesSoFar, Left, MetLimit, RanPlan, StopsAtFormat}
use Rattle.arj_programs.specs.Text.{report_text}
use Rattle.arj_programs.specs.declared.programs.Said.{Said}
use Rattle.arj_programs.specs.declared.programs.Silence.{Silence}
use Rattle.arj_programs.specs.declared.programs.Silence.TheVariants as silence
use Rattle.arj_programs.specs.declared.reading.Stop.{Stop}
use Rattle.arj_programs.specs.declared.reading.Stop.TheVariants as stop
use Rattle.arj_progrun.specs.declared.report.ReportLine.{ReportLine}

-- an input that isn't run: the line that says so, which is the whole journal, and the status
abbrev pub SaysStop : Stop → List Line → Option BadLine → Said → Type 0
SaysStop (stop.Bad number bad) journal why said =
    (said.status ≡ 2) × (why ≡ Some bad) × (journal ≡ outside_line (body.Bad number) ∷ [])
    × (said.text ≡ line_text (outside_line (body.Bad number)))
SaysStop stop.Long journal why said =
    (said.status ≡ 6) × (journal ≡ outside_line (body.Limit which.Lines) ∷ [])
    × (said.text ≡ line_text (outside_line (body.Limit which.Lines)))
SaysStop _ journal why said = ⊥

-- a plan that was run: what became of its programs, or that a limit was met
abbrev pub SaysPlan : {D M : Type 0} → Ghosts M D → Plan → List D → Left D M → Said → Type 0
SaysPlan m plan first now said =
    ((said.status ≡ 0) × ((told : List ReportLine) × RanPlan m plan first now told × (said.text ≡ report_text told)))
    ⊎ ((said.status ≡ 6) × MetLimit m plan.header first now × SaysLast now.journal said.text)

-- what is said of what came, or why nothing is
abbrev pub Comes : {D M : Type 0} → Ghosts M D → Input → List D → Left D M → Option BadLine → Result Said Silence → Type 0
Comes m given first now why (Ok said) = Says m given first now why said.text said.status
Comes m given first now why (Err silence.Read) = IsCutOff given × (now.rack ≡ first) × (now.journal ≡ []) × (now.machine ≡ None)
Comes m given first now why (Err silence.Disk) = (plan : Plan) × IsWhole given plan × StopsAtFormat m plan first now
Comes m given first now why (Err silence.Memory) =
    (now.rack ≡ first) ⊎ ((plan : Plan) × IsWhole given plan × ComesSoFar m plan first now.rack)
