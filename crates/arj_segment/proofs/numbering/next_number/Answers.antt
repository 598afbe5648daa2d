use Rattle.std.proofs.Common.{◌-◌, arith, length, refl}
use Rattle.arj_segment.proofs.Gathered.{all_below}
use Rattle.arj_segment.proofs.numbering.next_number.Goals as goal

pub returns-clause-above : goal.returns-clause-above
returns-clause-above c = all_below c.args.numbers.now (length c.args.numbers.now - 1) _ c.requires (omega arith) refl
