use Rattle.arj_disk.proofs.Apart.{others_stay}
use Rattle.arj_disk.proofs.laws.roles_apart.Goals as goal

pub returns : goal.returns
returns c = others_stay
