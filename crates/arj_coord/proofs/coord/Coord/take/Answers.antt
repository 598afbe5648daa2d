use Rattle.arj_coord.proofs.Fits.{fits_taken}
use Rattle.arj_coord.proofs.coord.Coord.take.Goals as goal

pub invariant_of-self : goal.invariant_of-self
invariant_of-self c =
    let s = c.self.inside in fits_taken s.tree.node s.tree.inc c.args.action.num s.doings c.take.new.self c.take.ensures.idle c.self.invariant
