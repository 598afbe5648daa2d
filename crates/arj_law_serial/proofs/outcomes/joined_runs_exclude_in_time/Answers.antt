use Rattle.arj_law_serial.proofs.joint.DisksJoined.{joined_in_time}
use Rattle.arj_law_serial.proofs.outcomes.joined_runs_exclude_in_time.Goals as goal

pub returns : goal.returns
returns c = joined_in_time
