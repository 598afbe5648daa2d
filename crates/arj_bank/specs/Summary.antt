-- The six lines that tell what a run of the bank came to.
use Rattle.std.specs.Prelude.{ℕ, List, [], ◌∷◌, ◌++◌, Bool, true, false, codes}
use Rattle.std.specs.List.{count_by}
use Rattle.arj_bank.specs.declared.summary.Summary.{Summary}
use Rattle.arj_bank.specs.declared.summary.Told.{Told}
use Rattle.arj_bank.specs.declared.summary.Told.TheVariants as told
use Rattle.arj_journal.specs.declared.body.Body.{Body}
use Rattle.arj_journal.specs.declared.body.Body.TheVariants as body
use Rattle.arj_journal.specs.declared.body.Line.{Line}
use Rattle.arj_text.specs.Words.{number_word}

-- ---- what the journal tells

-- an action committed
abbrev pub is_commit : Body → Bool
is_commit (body.Committed label) = true
is_commit _ = false

-- an action aborted
abbrev pub is_abort : Body → Bool
is_abort (body.Aborted label cause) = true
is_abort _ = false

-- an event was refused
abbrev pub is_refusal : Body → Bool
is_refusal (body.Refused cause) = true
is_refusal _ = false

-- whether a line tells of this; it is shut, so that no proof goes through all kinds of lines
unfoldable pub tells : Told → Line → Bool
tells told.Commit line = is_commit line.body
tells told.Abort line = is_abort line.body
tells told.Refusal line = is_refusal line.body

-- whether a round left all quiet, where the line tells of one; else what was said before
abbrev pub said_quiet : Body → Bool → Bool
said_quiet (body.Quiet quiet) before = quiet
said_quiet _ before = before

-- the same of a line; shut likewise
unfoldable pub quiet_by : Line → Bool → Bool
quiet_by line before = said_quiet line.body before

-- what the last line says that tells of a round, else what was said before
abbrev pub last_quiet : List Line → Bool → Bool
last_quiet [] before = before
last_quiet (line ∷ lines) before = last_quiet lines (quiet_by line before)

-- the summary of a run of so many events with this journal, behind which the balances have this sum
abbrev pub summary_of : ℕ → List Line → ℕ → Summary
summary_of events lines sum = record {
  events = events;
  committed = count_by (tells told.Commit) lines;
  aborted = count_by (tells told.Abort) lines;
  refused = count_by (tells told.Refusal) lines;
  sum = sum;
  quiet = last_quiet lines false;
}

-- ---- its text

-- a word, a number, and the line's end
abbrev pub count_line : List ℕ → ℕ → List ℕ
count_line word n = word ++ (number_word n ++ 10 ∷ [])

-- whether all was quiet, and the line's end
abbrev pub quiet_line : Bool → List ℕ
quiet_line true = codes "quiet yes" ++ 10 ∷ []
quiet_line false = codes "quiet no" ++ 10 ∷ []

-- the six lines
abbrev pub summary_text : Summary → List ℕ
summary_text s =
    count_line (codes "events") s.events
    ++ (count_line (codes "committed") s.committed
    ++ (count_line (codes "aborted") s.aborted ++ (count_line (codes "refused") s.refused ++ (count_line (codes "sum") s.sum ++ quiet_line s.quiet))))
