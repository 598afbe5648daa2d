use Rattle.arj_check.proofs.Own.{own_keys}
use Rattle.arj_check.proofs.laws.readable_tops_have_own_keys.Goals as goal

pub returns : goal.returns
returns c = own_keys
