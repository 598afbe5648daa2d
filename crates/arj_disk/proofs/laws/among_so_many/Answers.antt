use Rattle.arj_disk.proofs.Among.{at_most}
use Rattle.arj_disk.proofs.laws.among_so_many.Goals as goal

pub returns : goal.returns
returns c = at_most
