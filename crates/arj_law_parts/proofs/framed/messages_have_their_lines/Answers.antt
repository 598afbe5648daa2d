use Rattle.arj_law_parts.proofs.moves.Framing.{runs_frame}
use Rattle.arj_law_parts.proofs.framed.messages_have_their_lines.Goals as goal

pub returns : goal.returns
returns c = runs_frame
