-- What reading a piece of a line means.
use Rattle.std.specs.Prelude.{◌≡◌, ◌≢◌, ℕ, List, ⊤, Bool, true, false, Option, Some, None, Result, Ok, Err}
use Rattle.arj_class.specs.declared.op.Answer.{Answer}
use Rattle.arj_class.specs.declared.op.Answer.TheVariants as answer
use Rattle.arj_journal_reader.specs.declared.fault.LineFault.{LineFault}
use Rattle.arj_journal_reader.specs.declared.fault.LineFault.TheVariants.{NotALine, Memory}
use Rattle.arj_text.specs.Words.{answer_text}

-- This is in form and has this text; or nothing in form has it; or memory is wanting.
abbrev pub IsTaken : {A : Type 0} → (A → Type 0) → (A → List ℕ) → List ℕ → Result A LineFault → Type 0
IsTaken {A = A} InForm text bytes (Ok a) = InForm a × (bytes ≡ text a)
IsTaken {A = A} InForm text bytes (Err NotALine) = (a : A) → InForm a → bytes ≢ text a
IsTaken {A = A} InForm text bytes (Err Memory) = ⊤

-- what was read, or the fault that there is nothing
abbrev pub as_taken : {A : Type 0} → Option A → Result A LineFault
as_taken None = Err NotALine
as_taken (Some a) = Ok a

-- the answers that are a word
abbrev pub is_word_answer : Answer → Bool
is_word_answer (answer.Number n) = false
is_word_answer (answer.Text bytes) = false
is_word_answer _ = true

-- the bytes are such an answer
abbrev pub IsAnswerWord : List ℕ → Type 0
IsAnswerWord bytes = (a : Answer) × (is_word_answer a ≡ true) × (bytes ≡ answer_text a)
