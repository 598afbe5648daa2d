use Rattle.arj_script.proofs.Events.{no_working}
use Rattle.arj_script.proofs.event.working.Goals as goal

pub returns : goal.returns
returns c =
    no_working c.args.bytes.now (rw c.in_default.is at c.in_ok-label.ensures) (rw c.in_default-2.is at c.in_ok-label-2.ensures) c.in_default-label_behind.ensures c.in_default-label_behind-2.ensures c.in_default-label_behind-3.ensures
