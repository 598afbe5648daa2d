use Rattle.std.proofs.Common.{rules, ◌≡◌, sym, subst}
use Rattle.arj_protocol.specs.Coord as coord
use Rattle.arj_protocol.specs.Ending.{keeping_after}
use Rattle.arj_root.specs.Kept.{KeptFits}
use Rattle.arj_root.proofs.Kept.{changed_fits}
use Rattle.arj_root.proofs.keepings.Keepings.change.Goals as goal

pub put-requires : goal.put-requires
put-requires c =
    let was : KeptFits c.take-keeping.result.kept =
    subst (λ (k : coord.Keeping). KeptFits k.kept) (sym c.take-keeping.ensures.keeping) c.take-keeping.ensures.fits in
    let is : c.change_stores.new.self ≡ keeping_after c.args.plan.now c.args.x c.take-keeping.result = search rules in
    subst (λ (k : coord.Keeping). KeptFits k.kept) (sym is) (changed_fits c.args.plan.now c.args.x c.take-keeping.result c.requires.fits was)
