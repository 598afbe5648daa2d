use Rattle.std.proofs.Common.{◌++◌, ◌∙◌, [], ap, cond, sym}
use Rattle.std.proofs.lemmas.List.{append-nil}
use Rattle.std.proofs.lemmas.Result.{on_ok_weaker}
use Rattle.arj_pending.specs.Pends.{behind}
use Rattle.arj_pending.specs.Told.{pending_text}
use Rattle.arj_pending.proofs.told.put_behind.Goals as goal

pub returns-then-not-may_move : goal.returns-then-not-may_move
returns-then-not-may_move c = λ flags lines h n.
    let out = c.args.out.now in
    let text = pending_text c.args.header.now lines (let b = behind flags lines in b.pends) in
    sym (append-nil out) ∙ ap (λ b. out ++ cond b text []) (sym (sym c.may_move.ensures ∙ c.if-not-may_move.true))

pub returns : goal.returns
returns c = λ flags lines h n.
    let out = c.args.out.now in
    let header = c.args.header.now in
    let text = pending_text header lines (let b = behind flags lines in b.pends) in
    on_ok_weaker c.put_pending.result (λ e.
    e ∙ ap (λ ds. out ++ pending_text header lines ds) (c.as_slice.ensures.value ∙ h.prepares.pends)
    ∙ ap (λ b. out ++ cond b text []) (sym (sym c.may_move.ensures ∙ c.if-not-may_move.false))) (c.put_pending.ensures flags lines h n)
