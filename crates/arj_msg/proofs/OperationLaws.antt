-- The laws of operations and of answers.
use Rattle.std.proofs.Common.{◌≡◌, refl, arith}
use Rattle.arj_class.specs.declared.op.Op.{Op}
use Rattle.arj_class.specs.declared.op.Op.TheVariants as does
use Rattle.arj_class.specs.declared.op.Answer.{Answer}
use Rattle.arj_class.specs.declared.op.Answer.TheVariants as answered
use Rattle.arj_msg.specs.Format.{made_by}
use Rattle.arj_msg.specs.Operation.{operation, op_cases, op_parts, answer, answer_cases, answer_parts}
use Rattle.arj_msg.proofs.Laws.{Lawful}
use Rattle.arj_msg.proofs.FieldLaws.{number8_lawful, nothing_lawful, both_lawful}
use Rattle.arj_msg.proofs.TextLaws.{text_lawful}
use Rattle.arj_msg.proofs.ValueLaws.{value_there_lawful}
use Rattle.arj_msg.proofs.CaseLaws.{by_case, choice_lawful}

op_back : (op : Op) → made_by op_cases (op_parts op) ≡ op
op_back does.Get = refl
op_back (does.Add n) = refl
op_back (does.Set n) = refl
op_back (does.Put bytes) = refl
op_back (does.Deposit n) = refl
op_back (does.Withdraw n) = refl
op_back does.Len = refl
op_back (does.Push n) = refl
op_back does.Pop = refl
op_back (does.GetKey k) = refl
op_back (does.PutPair k v) = refl
op_back (does.Remove k) = refl
op_back (does.Create v) = refl
op_back does.Destroy = refl

pub operation_lawful : Lawful operation
unfolding operation
operation_lawful =
    let number = number8_lawful in
    let pair = both_lawful number number in
    choice_lawful 1 op_cases op_parts (omega arith) (nothing_lawful, (number, (number, (text_lawful, (number, (number, (nothing_lawful, (number, (nothing_lawful, (number, (pair, (number, (value_there_lawful, (nothing_lawful, tt))))))))))))))
    (by_case op_cases (λ s. op_parts (made_by op_cases s) ≡ s)
    ((λ p. refl), ((λ p. refl), ((λ p. refl), ((λ p. refl), ((λ p. refl), ((λ p. refl), ((λ p. refl), ((λ p. refl), ((λ p. refl), ((λ p. refl), ((λ p. refl), ((λ p. refl), ((λ p. refl), ((λ p. refl), tt)))))))))))))))
    op_back

answer_back : (a : Answer) → made_by answer_cases (answer_parts a) ≡ a
answer_back answered.Done = refl
answer_back (answered.Number n) = refl
answer_back (answered.Text bytes) = refl
answer_back answered.Over = refl
answer_back answered.Short = refl
answer_back answered.Full = refl
answer_back answered.Nothing = refl
answer_back answered.There = refl
answer_back answered.Gone = refl

pub answer_lawful : Lawful answer
unfolding answer
answer_lawful =
    choice_lawful 0 answer_cases answer_parts (omega arith) (nothing_lawful, (number8_lawful, (text_lawful, (nothing_lawful, (nothing_lawful, (nothing_lawful, (nothing_lawful, (nothing_lawful, (nothing_lawful, tt)))))))))
    (by_case answer_cases (λ s. answer_parts (made_by answer_cases s) ≡ s) ((λ p. refl), ((λ p. refl), ((λ p. refl), ((λ p. refl), ((λ p. refl), ((λ p. refl), ((λ p. refl), ((λ p. refl), ((λ p. refl), tt)))))))))) answer_back
