-- What a check leaves and answers, status by status.
use Rattle.std.specs.Prelude.{◌≡◌, ◌≢◌, ℕ, List, ◌++◌, codes, take, Option, Some}
use Rattle.arj_checking.specs.Found.{Finds, IsBadAt, IsCutOff, IsTooMany, IsWhole, finding_status, finding_text, outside_text}
use Rattle.arj_checking.specs.declared.finding.Finding.{Finding}
use Rattle.arj_checking.specs.declared.finding.Finding.TheVariants as finding
use Rattle.arj_checking.specs.declared.finding.Half.{Half}
use Rattle.arj_io.specs.Told.{Takes}
use Rattle.arj_journal.specs.declared.body.Body.TheVariants as body
use Rattle.arj_journal.specs.declared.body.Line.{Line}
use Rattle.arj_journal.specs.declared.body.Which.TheVariants as which
use Rattle.arj_journal.specs.declared.header.Header.{Header}
use Rattle.arj_lines.specs.Reading.{Gave, Input}
use Rattle.arj_loop.specs.Input.{source_view}
use Rattle.arj_loop.specs.declared.ending.BadLine.{BadLine}
use Rattle.arj_model.specs.Last.{first_values}
use Rattle.arj_model.specs.Nested.{nested_calls}
use Rattle.arj_model.specs.Serial.{Answers, Serial}
use Rattle.arj_reading.specs.Readable.{Readable}

-- What a check finds and leaves outside of it: the bytes that are left in the source, where it tells them, its count of failed
-- reads, and the bytes that the sink has taken, where it tells them.
pub record Ends : Type 0 where
  pub left : Option (List ℕ)
  pub faults : ℕ
  pub taken : Option (List ℕ)

-- what is outside of a check, of these
abbrev pub ends : Option (List ℕ) → ℕ → Option (List ℕ) → Ends
ends left faults taken = record { left = left; faults = faults; taken = taken }

-- The journal can be read as a run, is serial, and its nested calls are in order.
pub record IsInOrder (given : Input) : Type 0 where
  pub header : Header
  pub journal : List Line
  pub whole : IsWhole given header journal
  pub readable : Readable header journal
  pub serial : Serial (first_values header) journal
  pub nested : Answers (first_values header) (nested_calls journal)

-- A check: which bytes came, and status by status what that means, what was left as found, and what the sink took.
pub record Checks (before after : Ends) (status : ℕ) (found : Option Finding) : Type 0 where
  pub given : Input
  pub reads : Gave (source_view before.left before.faults) (source_view after.left after.faults) given
  -- all is as it should be
  pub yes : status ≡ 0 → IsInOrder given × Takes before.taken (codes "serial yes\n" ++ codes "nested yes\n") after.taken
  -- a line is bad
  pub bad : status ≡ 2 →
      (number : ℕ) × (at : Half) × (why : BadLine) × (found ≡ Some (finding.Bad number at why)) × IsBadAt given number at why × Takes before.taken (outside_text (body.Bad number)) after.taken
  -- a read failed: what had come could have been checked to its end
  pub fault : status ≡ 3 → IsCutOff given × (after.taken ≡ before.taken)
  -- a write failed: the sink took a front of the text of what is so of the input
  pub write : status ≡ 4 → (f : Finding) × (count : ℕ) × Finds given f × Takes before.taken (take count (finding_text f)) after.taken
  -- memory was wanting: it took nothing
  pub memory : status ≡ 5 → after.taken ≡ before.taken
  -- a half has too many lines
  pub many : status ≡ 6 →
      (at : Half) × (found ≡ Some (finding.Long at)) × IsTooMany given at × Takes before.taken (outside_text (body.Limit which.Lines)) after.taken
  -- the journal can't be read as a run, or an answer differs: the first line that breaks a rule, or the first call of each order
  pub no : status ≡ 8 →
      (f : Finding) × (found ≡ Some f) × Finds given f × (finding_status f ≡ 8) × Takes before.taken (finding_text f) after.taken
  -- these aren't answered
  pub never : (status ≢ 1) × (status ≢ 7)

-- What was found was written, or why it wasn't.
pub record Writes (before after : Option (List ℕ)) (f : Finding) (status : ℕ) (found : Option Finding) : Type 0 where
  pub wrote : status ≢ 4 → status ≢ 5 → (status ≡ finding_status f) × (found ≡ Some f) × Takes before (finding_text f) after
  pub front : status ≡ 4 → (count : ℕ) × Takes before (take count (finding_text f)) after
  pub memory : status ≡ 5 → after ≡ before
