use Rattle.arj_prog.proofs.LineTexts.{no_said}
use Rattle.arj_prog.proofs.line.said.Goals as goal

pub returns : goal.returns
returns c =
    no_said c.args.objects.now c.args.bytes.now c.in_default.ensures (rw c.in_default-2.is at c.in_ok-said.ensures) (rw c.in_default-3.is at c.in_ok-retry.ensures) (rw c.in_default-4.is at c.in_ok-name.ensures)
