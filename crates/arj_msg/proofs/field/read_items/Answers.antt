use Rattle.arj_msg.specs.Format.{read_many}
use Rattle.arj_msg.proofs.Loop.{goes_on}
use Rattle.arj_msg.proofs.field.read_items.Goals as goal

pub loop-preserved : goal.loop-preserved
loop-preserved g c =
    rw c.in_ok-push.ensures.ok (goes_on g.T.Field.format c.loop.items c.args.count c.loop.counter c.loop.rest.now c.in_ok-item.item c.in_ok-item.behind.now (read_many g.T.Field.format c.args.count c.args.bytes.now) c.loop-test.true
    c.in_ok-item.ensures c.loop.invariant)
