use Rattle.arj_coord.proofs.Fits.{fits_part}
use Rattle.arj_coord.proofs.coord.Coord.take_part.Goals as goal

pub invariant_of-self : goal.invariant_of-self
invariant_of-self c =
    let s = c.self.inside in fits_part s.tree.node s.tree.inc c.args.action.num c.args.nodes s.doings c.take_part.new.self c.take_part.ensures c.self.invariant
