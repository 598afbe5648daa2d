use Rattle.std.proofs.Common.{rules}
use Rattle.arj_pending.proofs.standing.Standing.new.Goals as goal

pub returns : goal.returns
returns c = λ flags. record { begun = search rules; changes = search rules; writes = search rules; prepares = c.new-4.ensures flags }
