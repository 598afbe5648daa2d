use Rattle.arj_lock.proofs.Indexing.{joins}
use Rattle.arj_lock.proofs.index.join.Goals as goal

pub returns : goal.returns
returns c = λ g n.
    joins c.args.lock.now c.args.grant g n c.args.index.now c.put_below.new.index c.put.new.index c.put-2.new.index c.put_against.new.index c.put_against-2.new.index c.put_against-3.new.index
    c.last-holder.result c.as_slice.result.now c.last-holder.ensures c.as_slice.ensures (c.in_ok-put.ensures g n) (c.in_ok-put-2.ensures g n) (c.in_ok-put_against.ensures g n)
    (c.in_ok-put_against-2.ensures g n) (c.in_ok-put_against-3.ensures g n) (c.in_ok-put_below.ensures g n)
