use Rattle.std.proofs.Common.{[], ◌∷◌}
use Rattle.arj_msg.proofs.PathLaws.{path_again}
use Rattle.arj_tree.proofs.tree.alone.Goals as goal

pub returns-clause-path : goal.returns-clause-path
returns-clause-path c = path_again c.new.result (c.args.uid ∷ []) 1 c.new.ensures.uids c.new.ensures.tops
