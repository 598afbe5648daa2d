use Rattle.std.proofs.Common.{◌∙◌}
use Rattle.arj_law_store.proofs.store.Keys.{among}
use Rattle.arj_naming.proofs.uids.is_among.Goals as goal

pub returns : goal.returns
returns c = c.contains.ensures ∙ among c.args.set.now.keys c.args.uid
