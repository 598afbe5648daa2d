use Rattle.arj_law_parts.proofs.steps.EndLines.{ends_write}
use Rattle.arj_law_parts.proofs.events.ends_write_their_lines.Goals as goal

pub returns : goal.returns
returns c = record { lines = ends_write }
