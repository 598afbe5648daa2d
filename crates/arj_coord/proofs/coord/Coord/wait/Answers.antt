use Rattle.std.proofs.Common.{List, subst, sym, ◌∙◌}
use Rattle.arj_coord.proofs.Fits.{fits_waits}
use Rattle.arj_coord.specs.Fits.{AllFit}
use Rattle.arj_coord.specs.Shown.{now_of}
use Rattle.arj_protocol.specs.Coord.{Doing}
use Rattle.arj_coord.proofs.coord.Coord.wait.Goals as goal

pub invariant_of-self-2 : goal.invariant_of-self-2
invariant_of-self-2 c =
    let s = c.self.inside in
    fits_waits c.args.action c.args.req (now_of c.args.now) s.tree s.doings c.wait.new.self (sym c.is_own.ensures ∙ c.if-not-is_own.false) c.requires c.in_ok-wait.ensures.waits c.self.invariant

pub invariant_of-self : goal.invariant_of-self
invariant_of-self c =
    let s = c.self.inside in subst (λ (ds : List Doing). AllFit s.tree.node s.tree.inc 1 ds) (sym c.in_err-wait.ensures.kept) c.self.invariant
