-- six events
use Rattle.std.proofs.lemmas.Result.{on_ok_weaker}
use Rattle.arj_gen.proofs.Saying.{commit_says, deposit_says, says_as, says_more}
use Rattle.arj_gen.proofs.transfer.put_giving.Goals as goal

pub returns : goal.returns
returns c =
    let third = says_as c.put-2.new.events c.put-3.new.events _ _ (deposit_says c.args.label c.args.i c.args.t.target c.args.t.amount c.requires.name) c.in_ok-put-3.ensures in
    let fifth = says_as c.put-4.new.events c.put-5.new.events _ _ (commit_says c.args.label c.args.i c.requires.name) c.in_ok-put-5.ensures in
    let two = says_more c.args.events.now c.put.new.events c.put-2.new.events _ _ c.in_ok-put.ensures c.in_ok-put-2.ensures in
    let three = says_more c.args.events.now c.put-2.new.events c.put-3.new.events _ _ two third in
    let four = says_more c.args.events.now c.put-3.new.events c.put-4.new.events _ _ three c.in_ok-put-4.ensures in
    let five = says_more c.args.events.now c.put-4.new.events c.put-5.new.events _ _ four fifth in
    on_ok_weaker c.put-6.result (λ last. says_more c.args.events.now c.put-5.new.events c.put-6.new.events _ _ five last) c.put-6.ensures
