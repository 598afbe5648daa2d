-- two events
use Rattle.std.proofs.lemmas.Result.{on_ok_weaker}
use Rattle.arj_gen.proofs.Saying.{begin_says, says_as, says_more, withdraw_says}
use Rattle.arj_gen.proofs.transfer.put_taking.Goals as goal

pub returns : goal.returns
returns c =
    let first = says_as c.args.events.now c.put.new.events _ _ (begin_says c.args.label c.args.i c.args.t.node c.requires.name) c.in_ok-put.ensures in
    on_ok_weaker c.put-2.result (λ last. says_more c.args.events.now c.put.new.events c.put-2.new.events _ _ first (says_as c.put.new.events c.put-2.new.events _ _ (withdraw_says c.args.label c.args.i c.args.t.source c.args.t.amount c.requires.name) last)) c.put-2.ensures
