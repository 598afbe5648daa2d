-- by the causes that every journal tells
use Rattle.arj_law_programs.proofs.Survive.{calls_survive}
use Rattle.arj_law_programs.proofs.committed.committed_programs_survive.Goals as goal

pub returns : goal.returns
returns c = record { runs = calls_survive c.journals_tell_their_causes.ensures.runs }
