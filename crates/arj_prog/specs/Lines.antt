-- What a line of the programs may say under the objects of a header, and how it is spelled.
use Rattle.std.specs.Prelude.{◌≡◌, ◌≢◌, ℕ, List, [], ◌∷◌, ◌++◌, codes, ⊤, Bool, true, false, ◌==◌, if◌then◌else◌, Option, Some, None}
use Rattle.std.specs.Fmt.{decimal}
use Rattle.arj_base.specs.declared.state.Class.{Class}
use Rattle.arj_base.specs.declared.state.Class.TheVariants as class
use Rattle.arj_class.specs.declared.limits.TheConstants.{REGISTER_BYTES}
use Rattle.arj_class.specs.declared.op.Op.{Op}
use Rattle.arj_class.specs.declared.op.Op.TheVariants.{Get}
use Rattle.arj_class.specs.declared.op.Answer.{Answer}
use Rattle.arj_class.specs.declared.op.Answer.TheVariants.{Number, Text}
use Rattle.arj_class.specs.Table.{has_op, own_class}
use Rattle.arj_journal.specs.declared.header.ObjectLine.{ObjectLine}
use Rattle.arj_journal_reader.specs.Reading.{is_word_answer}
use Rattle.arj_prog.specs.declared.limits.TheConstants.{RETRIES}
use Rattle.arj_prog.specs.declared.said.Said.{Said}
use Rattle.arj_prog.specs.declared.said.Said.TheVariants as said
use Rattle.arj_text.specs.Fields.{AreBytesUpTo, IsWithin, NumberInForm, OpTextInForm, ShortInForm}
use Rattle.arj_text.specs.declared.label.Label.{Label}
use Rattle.arj_text.specs.Label.{LabelInForm, name}
use Rattle.arj_text.specs.Words.{answer_text, hex, op_text}

-- the own class of an object of the header
abbrev pub class_at : ℕ → List ObjectLine → Option Class
class_at x [] = None
class_at x (o ∷ os) = if o.x == x then Some (own_class o.value) else class_at x os

-- whether the object is there, and its class has the operation
abbrev pub has_call : Option Class → Op → Bool
has_call None op = false
has_call (Some c) op = has_op c op

-- whether bytes are answered: to a register's `get`
abbrev pub answers_bytes : Option Class → Op → Bool
answers_bytes (Some class.Register) Get = true
answers_bytes _ _ = false

-- an object and an operation that may stand in a line
abbrev pub AskedInForm : ℕ × Op → Type 0
AskedInForm p = ShortInForm p.0 × OpTextInForm p.1

-- an object and an operation
abbrev pub asked_text : ℕ × Op → List ℕ
asked_text p = decimal p.0 ++ 32 ∷ op_text p.1

-- a call of an object of the header, by an operation of its class
abbrev pub CallInForm : List ObjectLine → ℕ × Op → Type 0
CallInForm os p = AskedInForm p × (has_call (class_at p.0 os) p.1 ≡ true)

-- An answer that a condition may name. Where bytes are answered, a text that is both the digits of bytes and a number is
-- taken as the bytes.
abbrev pub AnswerInForm : Bool → Answer → Type 0
AnswerInForm bytes (Number n) =
    NumberInForm n × (bytes ≡ true → (found : List ℕ) → AreBytesUpTo REGISTER_BYTES found → decimal n ≢ hex found)
AnswerInForm bytes (Text found) = (bytes ≡ true) × AreBytesUpTo REGISTER_BYTES found
AnswerInForm bytes _ = ⊤

-- an answer that is a word
abbrev pub IsWordAnswer : Answer → Type 0
IsWordAnswer a = is_word_answer a ≡ true

-- a call and an answer to it
abbrev pub TestInForm : List ObjectLine → ℕ × Op × Answer → Type 0
TestInForm os t = CallInForm os (t.0, t.1) × AnswerInForm (answers_bytes (class_at t.0 os) t.1) t.2

-- a call and an answer, with ` = ` between them
abbrev pub test_text : ℕ × Op × Answer → List ℕ
test_text t = asked_text (t.0, t.1) ++ (codes " = " ++ answer_text t.2)

-- a name, a node and a count of tries
abbrev pub HeadInForm : Label × ℕ × ℕ → Type 0
HeadInForm h = LabelInForm h.0 × IsWithin 1 255 h.1 × IsWithin 0 RETRIES h.2

-- the first line of a program, behind its word
abbrev pub head_text : Label × ℕ × ℕ → List ℕ
head_text h = name h.0 ++ 32 ∷ (codes "at " ++ (decimal h.1 ++ 32 ∷ (codes "retry " ++ decimal h.2)))

-- what a line may say
abbrev pub SaidInForm : List ObjectLine → Said → Type 0
SaidInForm os (said.Prog label node retry) = HeadInForm (label, node, retry)
SaidInForm os (said.Do x op) = CallInForm os (x, op)
SaidInForm os (said.Print x op) = CallInForm os (x, op)
SaidInForm os (said.If x op answer) = TestInForm os (x, op, answer)
SaidInForm os (said.Block retry) = IsWithin 0 RETRIES retry
SaidInForm os _ = ⊤

-- how it is spelled
abbrev pub said_text : Said → List ℕ
said_text (said.Prog label node retry) = codes "prog " ++ head_text (label, node, retry)
said_text (said.Do x op) = codes "do " ++ asked_text (x, op)
said_text (said.Print x op) = codes "print " ++ asked_text (x, op)
said_text (said.If x op answer) = codes "if " ++ test_text (x, op, answer)
said_text said.Else = codes "else"
said_text (said.Block retry) = codes "block " ++ decimal retry
said_text said.End = codes "end"
said_text said.Fail = codes "fail"
said_text said.Run = codes "run"

-- whether it is one word
abbrev pub is_bare_said : Said → Bool
is_bare_said said.Else = true
is_bare_said said.End = true
is_bare_said said.Fail = true
is_bare_said said.Run = true
is_bare_said _ = false

-- a line of one word
abbrev pub IsBareSaid : Said → Type 0
IsBareSaid s = is_bare_said s ≡ true

-- whether it has a call
abbrev pub is_call_said : Said → Bool
is_call_said (said.Do x op) = true
is_call_said (said.Print x op) = true
is_call_said (said.If x op answer) = true
is_call_said _ = false

-- a line with a call, in form
abbrev pub IsCallSaid : List ObjectLine → Said → Type 0
IsCallSaid os s = SaidInForm os s × (is_call_said s ≡ true)
