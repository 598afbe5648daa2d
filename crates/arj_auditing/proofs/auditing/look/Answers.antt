-- what came, and what was found of it
use Rattle.arj_auditing.proofs.auditing.look.Goals as goal

pub returns : goal.returns
returns g c = let r = c.read_lines-ending.ensures.ended in (r.0, r.1, c.finding_of.ensures r.0 r.2)
