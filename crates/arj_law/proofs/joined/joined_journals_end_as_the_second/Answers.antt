use Rattle.arj_law.proofs.JoinedLast.{clean_back, clean_join, entry_join, last_join, listed_join}
use Rattle.arj_law.proofs.joined.joined_journals_end_as_the_second.Goals as goal

pub returns-clause-state : goal.returns-clause-state
returns-clause-state c header next first second j x = last_join first second j.apart j.called header next j.goes x

pub returns-clause-listed : goal.returns-clause-listed
returns-clause-listed c header next first second j x = listed_join first second j.apart j.called header next j.goes x

pub returns-clause-entry : goal.returns-clause-entry
returns-clause-entry c header next first second j x = entry_join first second j.apart j.called header next j.goes x

pub returns-clause-clean : goal.returns-clause-clean
returns-clause-clean c header next first second j disks = clean_join header next first second j disks

pub returns-clause-clean_from : goal.returns-clause-clean_from
returns-clause-clean_from c header next first second j disks = clean_back header next first second j disks
