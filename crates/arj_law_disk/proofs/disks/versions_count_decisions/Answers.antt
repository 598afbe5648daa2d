use Rattle.arj_law_disk.proofs.machine.Results.{versions_count, old_is_committed}
use Rattle.arj_law_disk.proofs.disks.versions_count_decisions.Goals as goal

pub returns-clause-versions : goal.returns-clause-versions
returns-clause-versions c = versions_count

pub returns-clause-old : goal.returns-clause-old
returns-clause-old c = old_is_committed
