use Rattle.arj_law_cause.proofs.follow.causes.Refusing.{trees_are_followed}
use Rattle.arj_law_cause.proofs.refused.tree_refusals_follow.Goals as goal

pub returns : goal.returns
returns c = record { runs = λ hd r form. trees_are_followed hd r form }
