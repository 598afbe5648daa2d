use Rattle.arj_script.proofs.Events.{no_beginning}
use Rattle.arj_script.proofs.event.beginning.Goals as goal

pub returns : goal.returns
returns c =
    no_beginning c.args.bytes.now (rw c.in_default.is at c.in_ok-label.ensures) c.in_default-label_in.ensures c.in_default-label_in-2.ensures (rw c.in_default-2.is at c.in_ok-label-2.ensures)
