-- three events
use Rattle.std.proofs.lemmas.Result.{on_ok_weaker}
use Rattle.arj_gen.proofs.Saying.{says_more}
use Rattle.arj_gen.proofs.transfer.put_crash.Goals as goal

pub returns : goal.returns
returns c =
    let first = says_more c.args.events.now c.put.new.events c.put-2.new.events _ _ c.in_ok-put.ensures c.in_ok-put-2.ensures in
    on_ok_weaker c.put-3.result (λ last. says_more c.args.events.now c.put-2.new.events c.put-3.new.events _ _ first last) c.put-3.ensures
