use Rattle.arj_law_disk.proofs.machine.NamingResults.{booked, old_needs_restart}
use Rattle.arj_law_disk.proofs.naming.confirmations_are_booked.Goals as goal

pub returns-clause-booked : goal.returns-clause-booked
returns-clause-booked c = booked

pub returns-clause-old : goal.returns-clause-old
returns-clause-old c = old_needs_restart
