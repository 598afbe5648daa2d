use Rattle.arj_law_serial.proofs.joint.{Clean.joined_runs_are_serial, Clean.joined_runs_are_tied, JoinedRuns.moves_are_joined}
use Rattle.arj_law_serial.proofs.joint_runs.runs_have_both_machines.Goals as goal

pub returns-clause-joined : goal.returns-clause-joined
returns-clause-joined c = moves_are_joined

pub returns-clause-tied : goal.returns-clause-tied
returns-clause-tied c = joined_runs_are_tied

pub returns-clause-serial : goal.returns-clause-serial
returns-clause-serial c = joined_runs_are_serial
