-- Operations of objects and what they answer, each a code and its arguments.
use Rattle.std.specs.Prelude.{ℕ, ◌≤◌, List, [], ◌∷◌, take, drop, length, nat_le, ◌&&◌, Option, Some, None, if◌then◌else◌}
use Rattle.std.proofs.Common.{inl, inr}
use Rattle.arj_class.specs.declared.limits.TheConstants.{REGISTER_BYTES}
use Rattle.arj_class.specs.declared.op.Op.{Op}
use Rattle.arj_class.specs.declared.op.Op.TheVariants.{Get, Add, Set, Put, Deposit, Withdraw, Len, Push, Pop, GetKey, PutPair, Remove, Create}
use Rattle.arj_class.specs.declared.op.Op.TheVariants.{Destroy}
use Rattle.arj_class.specs.declared.op.Answer.{Answer}
use Rattle.arj_class.specs.declared.op.Answer.TheVariants as answered
use Rattle.arj_msg.specs.Format.{Format, one_field, both, nothing, Case, case, OneOf, choice}
use Rattle.arj_msg.specs.Fields.{number8}
use Rattle.arj_msg.specs.State.{value_there}

-- at most as many bytes as a register has behind their length are one field
abbrev pub cut_text : List ℕ → Option (List ℕ × List ℕ)
cut_text [] = None
cut_text (n ∷ rest) = if nat_le n REGISTER_BYTES && nat_le n (length rest) then Some (take n rest, drop n rest) else None

-- the bytes of a register: their length in one byte, and the bytes
unfoldable pub text : Format (List ℕ)
text = one_field (λ bytes. length bytes ∷ bytes) (λ bytes. length bytes ≤ REGISTER_BYTES) cut_text

-- codes 1 to 14
abbrev pub op_cases : List (Case Op)
op_cases =
    case nothing (λ _. Get) ∷ case number8 Add ∷ case number8 Set ∷ case text Put ∷ case number8 Deposit ∷ case number8 Withdraw ∷ case nothing (λ _. Len) ∷ case number8 Push ∷ case nothing (λ _. Pop)
    ∷ case number8 GetKey ∷ case (both number8 number8) (λ p. PutPair p.0 p.1) ∷ case number8 Remove ∷ case value_there Create ∷ case nothing (λ _. Destroy) ∷ []

-- an operation as one of the cases, by its place among them, with its arguments
abbrev pub op_parts : Op → OneOf op_cases
op_parts Get = inl tt
op_parts (Add n) = inr (inl n)
op_parts (Set n) = inr (inr (inl n))
op_parts (Put bytes) = inr (inr (inr (inl bytes)))
op_parts (Deposit n) = inr (inr (inr (inr (inl n))))
op_parts (Withdraw n) = inr (inr (inr (inr (inr (inl n)))))
op_parts Len = inr (inr (inr (inr (inr (inr (inl tt))))))
op_parts (Push n) = inr (inr (inr (inr (inr (inr (inr (inl n)))))))
op_parts Pop = inr (inr (inr (inr (inr (inr (inr (inr (inl tt))))))))
op_parts (GetKey k) = inr (inr (inr (inr (inr (inr (inr (inr (inr (inl k)))))))))
op_parts (PutPair k v) = inr (inr (inr (inr (inr (inr (inr (inr (inr (inr (inl (k, v)))))))))))
op_parts (Remove k) = inr (inr (inr (inr (inr (inr (inr (inr (inr (inr (inr (inl k)))))))))))
op_parts (Create v) = inr (inr (inr (inr (inr (inr (inr (inr (inr (inr (inr (inr (inl v))))))))))))
op_parts Destroy = inr (inr (inr (inr (inr (inr (inr (inr (inr (inr (inr (inr (inr (inl tt)))))))))))))

-- an operation: its code in one byte, from 1 to 14, and its arguments
unfoldable pub operation : Format Op
operation = choice 1 op_cases op_parts

-- codes 0 to 8
abbrev pub answer_cases : List (Case Answer)
answer_cases =
    case nothing (λ _. answered.Done) ∷ case number8 answered.Number ∷ case text answered.Text ∷ case nothing (λ _. answered.Over) ∷ case nothing (λ _. answered.Short) ∷ case nothing (λ _. answered.Full)
    ∷ case nothing (λ _. answered.Nothing) ∷ case nothing (λ _. answered.There) ∷ case nothing (λ _. answered.Gone) ∷ []

-- an answer as one of the cases, by its place among them, with what it tells
abbrev pub answer_parts : Answer → OneOf answer_cases
answer_parts answered.Done = inl tt
answer_parts (answered.Number n) = inr (inl n)
answer_parts (answered.Text bytes) = inr (inr (inl bytes))
answer_parts answered.Over = inr (inr (inr (inl tt)))
answer_parts answered.Short = inr (inr (inr (inr (inl tt))))
answer_parts answered.Full = inr (inr (inr (inr (inr (inl tt)))))
answer_parts answered.Nothing = inr (inr (inr (inr (inr (inr (inl tt))))))
answer_parts answered.There = inr (inr (inr (inr (inr (inr (inr (inl tt)))))))
answer_parts answered.Gone = inr (inr (inr (inr (inr (inr (inr (inr (inl tt))))))))

-- what an operation answers: its code in one byte, from 0 to 8, and what it tells
unfoldable pub answer : Format Answer
answer = choice 0 answer_cases answer_parts
