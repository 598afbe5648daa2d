use Rattle.arj_script.proofs.Events.{no_outside}
use Rattle.arj_script.proofs.event.outside.Goals as goal

pub returns : goal.returns
returns c =
    no_outside c.args.bytes.now (rw c.in_default.is at c.in_ok-node.ensures) (rw c.in_default-2.is at c.in_ok-node-2.ensures) (rw c.in_default-3.is at c.in_ok-node-3.ensures) (rw c.in_default-4.is at c.in_ok-node-4.ensures) (rw c.in_default-5.is at c.in_ok-x.ensures)
