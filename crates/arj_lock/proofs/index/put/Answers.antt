use Rattle.arj_lock.proofs.Indexing.{put_one}
use Rattle.arj_lock.proofs.index.put.Goals as goal

pub returns : goal.returns
returns c = put_one c.args.group c.args.grant c.args.index.now c.insert.new.self c.in_ok-insert.ensures.updates.0
