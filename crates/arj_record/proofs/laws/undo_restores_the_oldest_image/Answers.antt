use Rattle.arj_record.proofs.Undone.{oldest_added, oldest_merged}
use Rattle.arj_record.proofs.laws.undo_restores_the_oldest_image.Goals as goal

pub returns-clause-added : goal.returns-clause-added
returns-clause-added g c = oldest_added

pub returns-clause-merged : goal.returns-clause-merged
returns-clause-merged g c = oldest_merged
