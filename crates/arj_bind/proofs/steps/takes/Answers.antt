use Rattle.std.proofs.Common.{sym, ◌∙◌}
use Rattle.arj_protocol.specs.Ask.{answers}
use Rattle.arj_protocol.specs.Call.{Steps}
use Rattle.arj_bind.specs.Asking.{steps_of}
use Rattle.arj_bind.specs.Heard.{is_awaited}
use Rattle.arj_bind.proofs.Taking.{takes_is}
use Rattle.arj_bind.proofs.steps.takes.Goals as goal

pub returns : goal.returns
returns c =
    let s : Steps = steps_of c.args.asking.now in
    c.is_awaited.ensures
    ∙ ((λ i. is_awaited (c.asked_for.ensures s.x s.goal i) s.req (c.node.ensures i) c.args.from)
    ∙ sym (takes_is c.args.from s (answers c.args.message.now)))
