use Rattle.arj_lock.proofs.Indexing.{take_one}
use Rattle.arj_lock.proofs.index.take.Goals as goal

pub returns : goal.returns
returns c = take_one c.args.group c.args.grant c.args.index.now c.remove.new.self c.remove.ensures.updates.0
