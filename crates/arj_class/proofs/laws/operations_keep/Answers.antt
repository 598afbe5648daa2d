use Rattle.arj_class.proofs.Keeping.{read_keeps, class_kept}
use Rattle.arj_class.proofs.laws.operations_keep.Goals as goal

pub returns-clause-read : goal.returns-clause-read
returns-clause-read c = read_keeps

pub returns-clause-class : goal.returns-clause-class
returns-clause-class c = class_kept
