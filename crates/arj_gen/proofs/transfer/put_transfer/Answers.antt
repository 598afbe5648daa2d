-- the events of its parts
use Rattle.std.proofs.lemmas.Result.{on_ok_weaker}
use Rattle.arj_gen.proofs.Saying.{says_more}
use Rattle.arj_gen.proofs.transfer.put_transfer.Goals as goal

pub returns : goal.returns
returns c =
    on_ok_weaker c.put_crashes.result
    (λ last. says_more c.args.events.now c.put_taking.new.events c.put_crashes.new.events _ _ c.in_ok-put_taking.ensures
    (says_more c.put_taking.new.events c.put_loses.new.events c.put_crashes.new.events _ _ c.in_ok-put_loses.ensures
    (says_more c.put_loses.new.events c.put_giving.new.events c.put_crashes.new.events _ _ c.in_ok-put_giving.ensures last)))
    c.put_crashes.ensures
