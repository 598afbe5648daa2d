-- What a run of client programs leaves and answers, status by status.
use Rattle.std.specs.Prelude.{ℕ, ◌≡◌, ◌≢◌, ◌⊎◌, List, [], ◌∷◌, ◌++◌, take, Option, Some, None}
use Rattle.arj_io.specs.Told.{Takes}
use Rattle.arj_journal.specs.LineText.{line_text}
use Rattle.arj_journal.specs.declared.body.Body.{Body}
use Rattle.arj_journal.specs.declared.body.Body.TheVariants as body
use Rattle.arj_journal.specs.declared.body.Line.{Line}
use Rattle.arj_journal.specs.declared.body.Which.TheVariants as which
use Rattle.arj_lines.specs.Reading.{Gave, Input}
use Rattle.arj_loop.specs.Input.{source_view}
use Rattle.arj_loop.specs.Replayed.{Answer, Outside}
use Rattle.arj_loop.specs.declared.ending.BadLine.{BadLine}
use Rattle.arj_loop.specs.declared.machine.Machine.{Ghosts}
use Rattle.arj_prog.specs.declared.plan.Plan.{Plan}
use Rattle.arj_programs.specs.Input.{IsBadAt, IsCutOff, IsTooMany, IsWhole}
use Rattle.arj_programs.specs.Runs.{ComesSoFar, Left, MetLimit, RanPlan, StopsAtFormat, left}
use Rattle.arj_programs.specs.Text.{report_text}
use Rattle.arj_progrun.specs.declared.report.ReportLine.{ReportLine}

-- the line behind no event
abbrev pub outside_line : Body → Line
outside_line b = record { event = 0; body = b }

-- Nothing was run: the journal is this line alone, and no disk was touched.
pub record SaysAlone {D M : Type 0} (b : Body) (first : List D) (now : Left D M) (text : List ℕ) : Type 0 where
  pub journal : now.journal ≡ outside_line b ∷ []
  pub rack : now.rack ≡ first
  pub machine : now.machine ≡ None
  pub text_is : text ≡ line_text (outside_line b)

-- The text is that of the journal's last line.
pub record SaysLast (journal : List Line) (text : List ℕ) : Type 0 where
  pub front : List Line
  pub last : Line
  pub cut : journal ≡ front ++ last ∷ []
  pub text_is : text ≡ line_text last

-- the whole schedule of the plan was run, and what became of its programs is said
abbrev pub SaysRun : {D M : Type 0} → Ghosts M D → Input → List D → Left D M → List ℕ → Type 0
SaysRun m given first now text =
    (plan : Plan) × IsWhole given plan × ((told : List ReportLine) × RanPlan m plan first now told × (text ≡ report_text told))

-- a line is bad, and its number is said
abbrev pub SaysBad : {D M : Type 0} → Input → List D → Left D M → Option BadLine → List ℕ → Type 0
SaysBad given first now why text =
    (number : ℕ) × (bad : BadLine) × IsBadAt given number bad × (why ≡ Some bad) × SaysAlone (body.Bad number) first now text

-- a limit was met, and the journal's last line, which tells of it, is said
abbrev pub SaysLimit : {D M : Type 0} → Ghosts M D → Input → List D → Left D M → List ℕ → Type 0
SaysLimit m given first now text =
    (IsTooMany given × SaysAlone (body.Limit which.Lines) first now text)
    ⊎ ((plan : Plan) × IsWhole given plan × MetLimit m plan.header first now × SaysLast now.journal text)

-- What is said with a status.
pub record Says {D M : Type 0} (m : Ghosts M D) (given : Input) (first : List D) (now : Left D M) (why : Option BadLine) (text : List ℕ)
    (status : ℕ) : Type 0 where
  pub ran : status ≡ 0 → SaysRun m given first now text
  pub bad : status ≡ 2 → SaysBad given first now why text
  pub limit : status ≡ 6 → SaysLimit m given first now text
  pub only : (status ≡ 0) ⊎ ((status ≡ 2) ⊎ (status ≡ 6))

-- what a run left, by what is outside of it and what it answers
abbrev pub left_by : {D M : Type 0} → Outside D → Answer M → Left D M
left_by after answer = left after.rack answer.journal answer.machine

-- A run of client programs: which bytes came, and status by status what that means, what it leaves, and what the sink took.
pub record RunsPrograms {D M : Type 0} (m : Ghosts M D) (before after : Outside D) (answer : Answer M) : Type 0 where
  pub given : Input
  pub reads : Gave (source_view before.left before.faults) (source_view after.left after.faults) given
  -- the sink took what is said
  pub says : answer.status ≢ 3 → answer.status ≢ 4 → answer.status ≢ 5 → answer.status ≢ 7 →
      (text : List ℕ) × Says m given before.rack (left_by after answer) answer.why text answer.status × Takes before.taken text after.taken
  -- a write failed: the sink took a front of what is said with another status
  pub front : answer.status ≡ 4 →
      (text : List ℕ) × (count : ℕ) × (status : ℕ) × Says m given before.rack (left_by after answer) answer.why text status
      × Takes before.taken (take count text) after.taken
  -- a read failed: nothing was run
  pub fault : answer.status ≡ 3 → IsCutOff given × (after.rack ≡ before.rack) × (answer.journal ≡ []) × (answer.machine ≡ None)
  -- memory was wanting: so far it came
  pub memory : answer.status ≡ 5 →
      (after.rack ≡ before.rack) ⊎ ((plan : Plan) × IsWhole given plan × ComesSoFar m plan before.rack after.rack)
  pub stopped : answer.status ≡ 7 → (plan : Plan) × IsWhole given plan × StopsAtFormat m plan before.rack (left_by after answer)
  -- else the sink took nothing
  pub unsaid : (answer.status ≡ 3) ⊎ ((answer.status ≡ 5) ⊎ (answer.status ≡ 7)) → after.taken ≡ before.taken
  -- these aren't answered
  pub never : (answer.status ≢ 1) × (answer.status ≢ 8)
