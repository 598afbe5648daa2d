use Rattle.arj_law_serial.proofs.whole.WholeRuns.{runs_call_objects, runs_include_objects}
use Rattle.arj_law_serial.proofs.whole_runs.runs_call_their_objects.Goals as goal

pub returns-clause-calls : goal.returns-clause-calls
returns-clause-calls c = runs_call_objects

pub returns-clause-includes : goal.returns-clause-includes
returns-clause-includes c = runs_include_objects
