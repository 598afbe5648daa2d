use Rattle.std.proofs.Common.{◌∙◌, ap, map}
use Rattle.arj_model.specs.Book.{InOrder}
use Rattle.arj_book.proofs.keeps.keeps_order.Goals as goal

pub returns-then-not-serial : goal.returns-then-not-serial
returns-then-not-serial c = λ readable has k.
    let no : InOrder c.args.lines.now → ⊥ = rw c.if-not-serial.true at (c.in_ok-serial.ensures readable has) in
    no k.order

pub returns : goal.returns
returns c = λ readable has.
    let order : InOrder c.args.lines.now = rw c.if-not-serial.false at (c.in_ok-serial.ensures readable has) in
    c.keep_answers.ensures readable (ap (map (λ k. k.items)) c.as_slice.ensures.value ∙ c.in_ok-keys.ensures c.args.lines.now has) order
