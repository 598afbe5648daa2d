use Rattle.arj_record.proofs.Ended.{changed-forgotten, image-forgotten, mode-forgotten}
use Rattle.arj_record.proofs.laws.forgets_one_object.Goals as goal

pub returns-clause-image : goal.returns-clause-image
returns-clause-image g c = image-forgotten

pub returns-clause-mode : goal.returns-clause-mode
returns-clause-mode g c = mode-forgotten

pub returns-clause-changed : goal.returns-clause-changed
returns-clause-changed g c = changed-forgotten
