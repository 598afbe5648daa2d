use Rattle.std.proofs.Common.{refl}
use Rattle.arj_class.specs.declared.op.Answer.TheVariants.{Done, Over, Short, Full, Nothing, There, Gone}
use Rattle.arj_journal_reader.proofs.AnswerTexts.{word_answer, no_word_answer}
use Rattle.arj_journal_reader.proofs.answers.is_answer_word.Goals as goal

pub returns-then-is_text : goal.returns-then-is_text
returns-then-is_text c = word_answer c.args.bytes.now Done refl c.if-is_text.ensures

pub returns-then-is_text-2 : goal.returns-then-is_text-2
returns-then-is_text-2 c = word_answer c.args.bytes.now Over refl c.if-is_text-2.ensures

pub returns-then-is_text-3 : goal.returns-then-is_text-3
returns-then-is_text-3 c = word_answer c.args.bytes.now Short refl c.if-is_text-3.ensures

pub returns-then-is_text-4 : goal.returns-then-is_text-4
returns-then-is_text-4 c = word_answer c.args.bytes.now Full refl c.if-is_text-4.ensures

pub returns-then-is_text-5 : goal.returns-then-is_text-5
returns-then-is_text-5 c = word_answer c.args.bytes.now Nothing refl c.if-is_text-5.ensures

pub returns-then-is_text-6 : goal.returns-then-is_text-6
returns-then-is_text-6 c = word_answer c.args.bytes.now There refl c.if-is_text-6.ensures

pub returns-then-is_text-7 : goal.returns-then-is_text-7
returns-then-is_text-7 c = word_answer c.args.bytes.now Gone refl c.if-is_text-7.ensures

pub returns : goal.returns
returns c = no_word_answer c.args.bytes.now c.if-is_text.ensures c.if-is_text-2.ensures c.if-is_text-3.ensures c.if-is_text-4.ensures c.if-is_text-5.ensures c.if-is_text-6.ensures c.if-is_text-7.ensures
