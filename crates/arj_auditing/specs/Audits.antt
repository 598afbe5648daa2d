-- What an audit leaves and answers, by its status.
use Rattle.std.specs.Prelude.{◌≡◌, ◌≢◌, ℕ, List, take, Option}
use Rattle.arj_auditing.specs.Found.{Finds, IsCutOff, finding_status, finding_text}
use Rattle.arj_auditing.specs.declared.finding.Finding.{Finding}
use Rattle.arj_checking.specs.Checks.{Ends}
use Rattle.arj_io.specs.Told.{Takes}
use Rattle.arj_lines.specs.Reading.{Gave, Input}
use Rattle.arj_loop.specs.Input.{source_view}

-- An audit: which bytes came, what the status means, and what the sink took.
pub record Audits (before after : Ends) (status : ℕ) : Type 0 where
  pub given : Input
  pub reads : Gave (source_view before.left before.faults) (source_view after.left after.faults) given
  -- what is found of the input was written: a bad line at 2, too many lines at 6, else what is so of the image, and at 0 it is calm
  pub found : status ≢ 3 → status ≢ 4 → status ≢ 5 →
      (f : Finding) × Finds given f × (status ≡ finding_status f) × Takes before.taken (finding_text f) after.taken
  -- a read failed: what had come is the front of an image
  pub fault : status ≡ 3 → IsCutOff given × (after.taken ≡ before.taken)
  -- a write failed: the sink took a front of the text of what is so of the input
  pub write : status ≡ 4 → (f : Finding) × (count : ℕ) × Finds given f × Takes before.taken (take count (finding_text f)) after.taken
  -- memory was wanting: it took nothing
  pub memory : status ≡ 5 → after.taken ≡ before.taken
  -- these aren't answered
  pub never : (status ≢ 1) × (status ≢ 7)

-- What was found was written, or why it wasn't.
pub record Writes (before after : Option (List ℕ)) (f : Finding) (status : ℕ) : Type 0 where
  pub wrote : status ≢ 4 → status ≢ 5 → (status ≡ finding_status f) × Takes before (finding_text f) after
  pub front : status ≡ 4 → (count : ℕ) × Takes before (take count (finding_text f)) after
  pub memory : status ≡ 5 → after ≡ before
