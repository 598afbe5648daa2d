-- by the causes that every journal tells, and by what programs mean
use Rattle.arj_law_programs.proofs.Survive.{programs_run_alone}
use Rattle.arj_law_programs.proofs.committed.committed_programs_run_alone.Goals as goal

pub returns : goal.returns
returns c = record { runs = programs_run_alone c.journals_tell_their_causes.ensures.runs c.programs_mean_their_calls.ensures }
