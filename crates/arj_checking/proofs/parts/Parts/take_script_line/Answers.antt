-- a line of the script was taken
use Rattle.std.proofs.Common.{◌++◌, ◌∷◌, [], arith, subst, sym}
use Rattle.arj_checking.specs.Taking.{IsAt}
use Rattle.arj_checking.proofs.Stages.{at_script}
use Rattle.arj_checking.proofs.parts.Parts.take_script_line.Goals as goal

pub returns-in-Ok-clause-took : goal.returns-in-Ok-clause-took
returns-in-Ok-clause-took c done at =
    subst (λ p. IsAt (done ++ c.args.line.now ∷ []) p) (sym c.keep.ensures)
    (at_script done c.args.line.now c.args.self.now c.line.new.self c.in-Ok.item c.requires.half (omega (arith, c.if-self-ge-SCRIPT_LINES.false)) c.in-Ok.ensures.taken at)
