use Rattle.arj_law_cause.proofs.told.Locks.{granted_whole}
use Rattle.arj_law_cause.proofs.causes.locks_on_entries_are_free.Goals as goal

pub returns : goal.returns
returns c = record { locked = granted_whole }
