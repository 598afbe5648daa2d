use Rattle.arj_law_disk.proofs.machine.Results.{first_is_whole, stops_stay_whole}
use Rattle.arj_law_disk.proofs.disks.disks_stay_whole.Goals as goal

pub returns-clause-first : goal.returns-clause-first
returns-clause-first c = first_is_whole

pub returns-clause-effects : goal.returns-clause-effects
returns-clause-effects c = stops_stay_whole
