-- The answer stands behind the first such sign.
use Rattle.std.proofs.Common.{ap, subst, ◌∙◌, Some, None}
use Rattle.arj_text.specs.Fields.{IsRead}
use Rattle.arj_text.specs.Words.{answer_text}
use Rattle.arj_prog.specs.Lines.{AnswerInForm, answers_bytes}
use Rattle.arj_prog.proofs.Asked.{no_answer, no_back, no_front, no_words, test_read}
use Rattle.arj_prog.proofs.call.test.Goals as goal

pub returns-in_default-before : goal.returns-in_default-before
returns-in_default-before c =
    no_front c.args.objects.now c.args.bytes.now c.in-Some.front.now c.in-Some.back.now c.in-Some.ensures.0 c.in-Some.ensures.1 c.in_default-before.ensures

pub returns-in_default-after : goal.returns-in_default-after
returns-in_default-after c =
    no_back c.args.objects.now c.args.bytes.now c.in-Some.front.now c.in-Some.back.now c.in-Some.ensures.0 c.in-Some.ensures.1 c.in_default-after.ensures.cases

pub returns-in_default-2 : goal.returns-in_default-2
returns-in_default-2 c =
    no_words c.args.objects.now c.args.bytes.now c.in-Some.front.now c.in-Some.back.now c.in-Some-before.words.now c.in-Some.ensures.0 c.in-Some.ensures.1 c.in-Some-before.ensures (rw c.in_default-2.is at c.in_ok-x.ensures)

pub returns-in-Some-3 : goal.returns-in-Some-3
returns-in-Some-3 c =
    let x = c.in-Some-2.x in
    let asked = c.in-Some-2.op in
    let as_bytes = c.answers_bytes.ensures ∙ ap (λ k. answers_bytes k asked) c.class_at.ensures in
    let answered =
    subst (λ b. IsRead (AnswerInForm b) answer_text c.in-Some-after.word.now (Some c.in-Some-3.answer)) as_bytes (rw c.in-Some-3.is at c.in_ok-answer.ensures) in
    test_read c.args.objects.now c.args.bytes.now c.in-Some.front.now c.in-Some.back.now c.in-Some-before.words.now c.in-Some-after.word.now (x, asked) c.in-Some-3.answer
    c.in-Some.ensures.1 c.in-Some-before.ensures c.in-Some-after.ensures.cases (rw c.in-Some-2.is at c.in_ok-x.ensures) answered

pub returns-in-None : goal.returns-in-None
returns-in-None c =
    let x = c.in-Some-2.x in
    let asked = c.in-Some-2.op in
    let as_bytes = c.answers_bytes.ensures ∙ ap (λ k. answers_bytes k asked) c.class_at.ensures in
    let none = subst (λ b. IsRead (AnswerInForm b) answer_text c.in-Some-after.word.now None) as_bytes (rw c.in-None.is at c.in_ok-answer.ensures) in
    no_answer c.args.objects.now c.args.bytes.now c.in-Some.front.now c.in-Some.back.now c.in-Some-before.words.now c.in-Some-after.word.now (x, asked)
    c.in-Some.ensures.0 c.in-Some.ensures.1 c.in-Some-before.ensures c.in-Some-after.ensures.cases (rw c.in-Some-2.is at c.in_ok-x.ensures) none
