use Rattle.arj_law_lock.proofs.machine.Worked.{lost_lock, rebinding, serializing, old_frames}
use Rattle.arj_law_lock.proofs.runs.these_runs_happen.Goals as goal

pub returns-clause-lost_lock : goal.returns-clause-lost_lock
returns-clause-lost_lock c = lost_lock

pub returns-clause-rebinding : goal.returns-clause-rebinding
returns-clause-rebinding c = rebinding

pub returns-clause-serializing : goal.returns-clause-serializing
returns-clause-serializing c = serializing

pub returns-clause-old_frames : goal.returns-clause-old_frames
returns-clause-old_frames c = old_frames
