use Rattle.arj_law.proofs.Alike.{same_calls, same_entry, same_last, same_listed, same_nested_calls, same_serial_calls, same_tops}
use Rattle.arj_law.proofs.shown.shown_journals_are_alike.Goals as goal

pub returns-clause-calls : goal.returns-clause-calls
returns-clause-calls c = same_calls

pub returns-clause-tops : goal.returns-clause-tops
returns-clause-tops c = same_tops

pub returns-clause-serial : goal.returns-clause-serial
returns-clause-serial c = same_serial_calls

pub returns-clause-nested : goal.returns-clause-nested
returns-clause-nested c = same_nested_calls

pub returns-clause-state : goal.returns-clause-state
returns-clause-state c = same_last

pub returns-clause-listed : goal.returns-clause-listed
returns-clause-listed c = same_listed

pub returns-clause-entry : goal.returns-clause-entry
returns-clause-entry c = same_entry
