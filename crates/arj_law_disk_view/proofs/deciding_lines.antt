-- The journal's side of the disk half: what an object's machine decides is what the journal says.
--
-- `running/` has for each object a machine of its stores, its entry and its coordinators' records in every run, and
-- `arj_law_runs/journal` what the lines of a run say of ends and records. Here both are carried together: who is newly decided in a
-- step has its record at the end; and of each line that decides, the machine has decided by then.
pub mod Doing
pub mod IdleKnown
pub mod Owners
pub mod Steps
pub mod Unlate
pub mod Tying
