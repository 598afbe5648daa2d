-- a line was taken
use Rattle.std.proofs.Common.{◌++◌, ◌∷◌, [], ◌<◌, arith, subst, sym}
use Rattle.arj_programs.proofs.Stages.{taken_at}
use Rattle.arj_programs.specs.Taking.{IsAt}
use Rattle.arj_programs.proofs.taking.TakingTakerRefusal.take.Goals as goal

pub returns-in-Ok-clause-took : goal.returns-in-Ok-clause-took
returns-in-Ok-clause-took c done at =
    let room : c.args.self.now.lines < 100000 = omega (arith, c.if-self-ge-SCRIPT_LINES.false) in
    subst (λ t. IsAt (done ++ c.args.line.now ∷ []) t) (sym c.keep.ensures)
    (taken_at done c.args.line.now c.args.self.now c.line.new.self c.in-Ok.item c.in-Ok.ensures.taken c.in-Ok.ensures.header room at)
