use Rattle.arj_lock.proofs.Indexing.{leaves}
use Rattle.arj_lock.proofs.index.leave.Goals as goal

pub returns : goal.returns
returns c = λ g n.
    leaves c.args.lock.now c.args.grant g n c.args.index.now c.take_below.new.index c.take.new.index c.take-2.new.index c.take_against.new.index c.take_against-2.new.index c.take_against-3.new.index
    c.last-holder.result c.as_slice.result.now c.last-holder.ensures c.as_slice.ensures (c.take.ensures g n) (c.take-2.ensures g n) (c.take_against.ensures g n)
    (c.take_against-2.ensures g n) (c.take_against-3.ensures g n) (c.take_below.ensures g n)
