use Rattle.std.proofs.Common.{◌∙◌}
use Rattle.arj_law_store.proofs.store.Keys.{drop_is}
use Rattle.arj_naming.proofs.uids.drop_uid.Goals as goal

pub returns : goal.returns
returns c = c.remove.ensures.keys ∙ drop_is c.args.set.now.keys c.args.uid c.len.ensures.ordered
