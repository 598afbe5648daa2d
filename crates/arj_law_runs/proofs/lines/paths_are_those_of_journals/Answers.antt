use Rattle.arj_law_parts.proofs.Words.{world_by}
use Rattle.arj_law_runs.proofs.{calls.Reaching.moves_keep, journal.Paths.paths_agree}
use Rattle.arj_law_runs.proofs.lines.paths_are_those_of_journals.Goals as goal

pub returns : goal.returns
returns c = λ hd r. paths_agree hd (world_by hd r) (moves_keep hd r)
