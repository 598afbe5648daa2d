use Rattle.arj_prog.proofs.LineTexts.{no_calling}
use Rattle.arj_prog.proofs.line.calling.Goals as goal

pub returns : goal.returns
returns c =
    no_calling c.args.objects.now c.args.bytes.now (rw c.in_default.is at c.in_ok-x.ensures) (rw c.in_default-2.is at c.in_ok-x-2.ensures) (rw c.in_default-3.is at c.in_ok-x-3.ensures)
