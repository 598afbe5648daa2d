use Rattle.std.proofs.Common.{List, Bool, true, false}
use Rattle.std.specs.Prelude.{MatchBool}
use Rattle.std.proofs.lemmas.Result.{IfOk-weaker}
use Rattle.arj_book.specs.Order.{KeepsOrder}
use Rattle.arj_journal.specs.declared.body.Line.{Line}
use Rattle.arj_model.specs.Book.{Answered, InOrder}
use Rattle.arj_model.specs.Serial.{Values}
use Rattle.arj_model.specs.Last.{first_values}
use Rattle.arj_model.specs.Nested.{AnsweredInTime, FreedInOrder}
use Rattle.arj_book.proofs.keeps.keep_answers.Goals as goal

pub returns-then-not-answered : goal.returns-then-not-answered
returns-then-not-answered c = λ readable keys order k.
    let no : Answered (first_values c.args.header.now) c.args.lines.now → ⊥ = rw c.if-not-answered.true at (c.in_ok-answered.ensures readable keys) in
    no k.answers

pub returns-then-not-timely : goal.returns-then-not-timely
returns-then-not-timely c = λ readable keys order k.
    let no : AnsweredInTime c.args.lines.now → ⊥ = rw c.if-not-timely.true at (c.are_timely-timely.ensures keys) in
    no k.times

pub returns : goal.returns
returns c = λ readable keys order.
    let values = first_values c.args.header.now in
    let lines = c.args.lines.now in
    let answers : Answered values lines = rw c.if-not-answered.false at (c.in_ok-answered.ensures readable keys) in
    let times : AnsweredInTime lines = rw c.if-not-timely.false at (c.are_timely-timely.ensures keys) in
    IfOk-weaker c.are_nested.result (λ is. MatchBool is (FreedInOrder lines) (FreedInOrder lines → ⊥))
    (λ is. MatchBool is (KeepsOrder values lines) (KeepsOrder values lines → ⊥))
    (λ is. by values lines order answers times is) (c.are_nested.ensures readable keys)
  where
    by : (values : Values) (lines : List Line) → InOrder lines → Answered values lines → AnsweredInTime lines → (b : Bool) →
        MatchBool b (FreedInOrder lines) (FreedInOrder lines → ⊥) → MatchBool b (KeepsOrder values lines) (KeepsOrder values lines → ⊥)
    by values lines order answers times true nested = record { order = order; answers = answers; nested = nested; times = times }
    by values lines order answers times false other = λ k. other k.nested
