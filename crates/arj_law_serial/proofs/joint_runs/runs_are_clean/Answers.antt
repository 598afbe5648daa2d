use Rattle.arj_law_serial.proofs.joint.{Clean.runs_are_clean, Listing.all_there, Showing.readings_show_pairs}
use Rattle.arj_law_serial.proofs.joint_runs.runs_are_clean.Goals as goal

pub returns-clause-clean : goal.returns-clause-clean
returns-clause-clean c = runs_are_clean

pub returns-clause-shown : goal.returns-clause-shown
returns-clause-shown c = readings_show_pairs

pub returns-clause-listed : goal.returns-clause-listed
returns-clause-listed c hd lines form includes x s among = all_there hd lines form includes x s among
