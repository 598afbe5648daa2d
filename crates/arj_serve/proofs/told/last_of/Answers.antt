use Rattle.std.proofs.Common.{◌∙◌}
use Rattle.arj_naming.proofs.LastEnd.{last_is}
use Rattle.arj_serve.proofs.told.last_of.Goals as goal

pub returns : goal.returns
returns c = c.copied.ensures ∙ (c.last.ensures.value ∙ last_is c.args.ends.now)
