use Rattle.std.proofs.Common.{[], ◌∷◌, arith}
use Rattle.arj_base_tests.proofs.disk.few_known.Goals as goal

pub returns : goal.returns
returns c = c.among_so_many.ensures 2 (c.args.one ∷ c.args.two ∷ []) (omega arith)
