use Rattle.std.proofs.Common.{◌∙◌}
use Rattle.arj_lock.specs.declared.group.Group.TheVariants.{Own}
use Rattle.arj_lock.proofs.Entries.{some_in_group}
use Rattle.arj_lock.proofs.pass.has.Goals as goal

pub returns : goal.returns
returns c = c.is_some.ensures ∙ some_in_group (Own c.args.object c.args.holder) c.args.grants.now c.find.result c.find.ensures.first
