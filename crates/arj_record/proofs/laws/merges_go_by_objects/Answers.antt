use Rattle.arj_record.proofs.Undone.{image-merged, mode-merged, changed-merged, added_merged}
use Rattle.arj_record.proofs.laws.merges_go_by_objects.Goals as goal

pub returns-clause-image : goal.returns-clause-image
returns-clause-image g c = image-merged

pub returns-clause-mode : goal.returns-clause-mode
returns-clause-mode g c = mode-merged

pub returns-clause-changed : goal.returns-clause-changed
returns-clause-changed g c = changed-merged

pub returns-clause-added : goal.returns-clause-added
returns-clause-added g c = added_merged
