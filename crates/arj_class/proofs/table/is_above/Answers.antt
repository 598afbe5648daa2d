use Rattle.arj_class.proofs.Places.{above_last}
use Rattle.arj_class.proofs.table.is_above.Goals as goal

pub returns-in-Some : goal.returns-in-Some
returns-in-Some c = above_last c.args.key c.args.pairs.now c.in-Some.field-0.now c.requires c.in-Some.ensures.value
