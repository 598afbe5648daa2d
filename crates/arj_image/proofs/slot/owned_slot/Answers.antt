use Rattle.arj_image.proofs.Slots.{no_owned_slot}
use Rattle.arj_image.proofs.slot.owned_slot.Goals as goal

pub returns : goal.returns
returns c =
    no_owned_slot c.args.bytes.now (rw c.in_default.is at c.in_ok-role.ensures) (rw c.in_default-2.is at c.in_ok-role-2.ensures)
    (rw c.in_default-3.is at c.in_ok-role-3.ensures)
