use Rattle.arj_manager.specs.Runs.{images}
use Rattle.arj_manager.proofs.Lists.{keep_is, lists_agree, lists_stay, undo_is}
use Rattle.arj_manager.proofs.laws.records_agree.Goals as goal

pub returns-clause-images : goal.returns-clause-images
returns-clause-images c = lists_agree

pub returns-clause-lists : goal.returns-clause-lists
returns-clause-lists c = lists_stay

pub returns-clause-undo : goal.returns-clause-undo
returns-clause-undo c = λ x u base es l are same. undo_is x u l (images base es) are same

pub returns-clause-keep : goal.returns-clause-keep
returns-clause-keep c = λ x u base es l are same. keep_is x u l (images base es) are same
