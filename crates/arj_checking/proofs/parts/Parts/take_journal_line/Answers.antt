-- a line of the journal was taken
use Rattle.std.proofs.Common.{◌++◌, ◌<◌, ◌∷◌, [], ap, arith, length, subst, sym}
use Rattle.std.proofs.lemmas.Result.{on_ok_weaker}
use Rattle.arj_checking.specs.Parts.{IsLine}
use Rattle.arj_checking.specs.Taking.{IsAt}
use Rattle.arj_checking.proofs.Stages.{at_more, few_lines}
use Rattle.arj_checking.proofs.parts.Parts.take_journal_line.Goals as goal

pub push-requires : goal.push-requires
push-requires c =
    let at = c.requires.at in
    record { few = omega (arith, few_lines at.0 c.args.self.now at.1) }

pub returns-in-Ok-clause-took : goal.returns-in-Ok-clause-took
returns-in-Ok-clause-took c =
    let r = c.in-Ok.ensures.read in
    let room : length c.args.self.now.journal < 1000000 =
    omega (arith, c.if-as_slice-ge-JOURNAL_LINES.false, ap length c.as_slice.ensures) in
    let line : IsLine c.args.line.now c.in-Ok.read = record { short = c.requires.short; form = r.0; text = r.1 } in
    on_ok_weaker c.push.result
    (λ is done at. subst (λ p. IsAt (done ++ c.args.line.now ∷ []) p) (sym is) (at_more done c.args.line.now c.args.self.now c.in-Ok.read c.requires.half room line at))
    c.push.ensures.pushed
