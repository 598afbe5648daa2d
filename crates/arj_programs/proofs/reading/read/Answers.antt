-- what came, and what was read of it
use Rattle.arj_programs.proofs.reading.read.Goals as goal

pub returns : goal.returns
returns g c = let r = c.read_lines-ending.ensures.ended in (r.0, r.1, c.plan_of.ensures r.0 r.2)
