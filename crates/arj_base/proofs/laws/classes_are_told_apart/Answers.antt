use Rattle.arj_base.proofs.Packed.{class_once}
use Rattle.arj_base.proofs.laws.classes_are_told_apart.Goals as goal

pub returns : goal.returns
returns c = class_once
