use Rattle.std.proofs.Common.{◌≡◌, ◌&&◌, ◌∙◌, sym}
use Rattle.std.proofs.lemmas.Result.{IfOk-weaker}
use Rattle.arj_pending.specs.Holds.{changes_by, may_hold}
use Rattle.arj_pending.proofs.holds.may_hold.Goals as goal

pub returns-then-not-may_store : goal.returns-then-not-may_store
returns-then-not-may_store c = λ flags lines h.
    let no = sym (c.may_store.ensures lines h.changes) ∙ c.if-not-may_store.true in
    sym (λ i. no i && changes_by lines c.args.action c.args.x)

pub returns : goal.returns
returns c = λ flags lines h.
    let u = c.args.action in
    let x = c.args.x in
    let yes = sym (c.may_store.ensures lines h.changes) ∙ c.if-not-may_store.false in
    IfOk-weaker c.changes_by.result (λ test. test ≡ changes_by lines u x)
    (λ test. test ≡ may_hold c.args.header.now lines c.args.node u x) (λ test e. e ∙ sym (λ i. yes i && changes_by lines u x))
    (c.changes_by.ensures flags lines h)
