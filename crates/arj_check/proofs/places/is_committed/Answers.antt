use Rattle.std.proofs.Common.{◌∙◌, ◌||◌}
use Rattle.arj_check.proofs.Survive.{committed_is}
use Rattle.arj_check.proofs.places.is_committed.Goals as goal

pub returns : goal.returns
returns c = λ lines has. c.either.ensures ∙ (λ i. c.contains_key-by_line.ensures i || c.contains_key-by_record.ensures i) ∙ committed_is lines c.args.reading.now has c.args.top.now
