use Rattle.std.proofs.Common.{sym}
use Rattle.arj_journal_reader.proofs.AnswerTexts.{number_answer, text_answer}
use Rattle.arj_journal_reader.proofs.answers.is_answer.Goals as goal

pub returns-in-Some : goal.returns-in-Some
returns-in-Some c = number_answer c.args.asked.now c.args.bytes.now c.in-Some._number (rw c.in-Some.is at c.in_ok-_number.ensures)

pub returns-in-Some-2 : goal.returns-in-Some-2
returns-in-Some-2 c =
    text_answer c.args.asked.now c.args.bytes.now c.in-Some-2._value (sym c.if-not-is_get.ensures) (rw c.in-Some-2.is at c.in_ok-_value.ensures)
