use Rattle.std.proofs.Common.{subst}
use Rattle.std.specs.Prelude.{IfSome}
use Rattle.arj_coord.proofs.Fits.{fits_of}
use Rattle.arj_coord.specs.Fits.{NowFits}
use Rattle.arj_protocol.specs.Coord.{Coord, Doing, doing_of}
use Rattle.arj_coord.proofs.coord.Coord.fits.Goals as goal

pub returns : goal.returns
returns c =
    let s = c.self.inside in
    let d : Coord = record { tree = s.tree; labels = s.labels.entries; doings = s.doings; roots = s.roots.entries; telling = s.telling } in
    subst (λ (d : Coord). IfSome (doing_of c.args.action d) (λ (w : Doing). NowFits c.args.action w.req w.now)) c.self.view_is (fits_of c.args.action d c.self.invariant)
