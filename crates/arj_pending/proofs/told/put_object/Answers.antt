use Rattle.std.proofs.Common.{◌++◌, ◌∙◌, [], ap, cond}
use Rattle.std.proofs.lemmas.Result.{on_ok_weaker}
use Rattle.arj_pending.specs.Told.{state_text}
use Rattle.arj_pending.proofs.told.put_object.Goals as goal

pub returns : goal.returns
returns c = λ flags lines h.
    let out = c.args.out.now in
    on_ok_weaker c.put_state_if.result (λ e.
    e ∙ ap (λ b. out ++ cond b (state_text c.args.object.now.x c.args.pend.now) []) (c.in_ok-may.ensures flags lines h)) c.put_state_if.ensures
