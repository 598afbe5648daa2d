use Rattle.std.proofs.Common.{◌∙◌}
use Rattle.arj_lock.specs.declared.group.Group.TheVariants.{Below}
use Rattle.arj_lock.proofs.Entries.{some_in_group}
use Rattle.arj_lock.proofs.tops.is_any_below.Goals as goal

pub returns : goal.returns
returns c = c.is_some.ensures ∙ some_in_group (Below c.args.action) c.args.grants.now c.find.result c.find.ensures.first
