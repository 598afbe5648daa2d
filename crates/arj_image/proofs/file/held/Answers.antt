use Rattle.arj_image.proofs.FileTexts.{held_no_bytes, held_no_slot}
use Rattle.arj_image.proofs.file.held.Goals as goal

pub returns-in_default-2 : goal.returns-in_default-2
returns-in_default-2 c =
    held_no_slot c.args.bytes.now c.in-Some.name.now c.in-Some.digits.now c.in-Some.ensures.0 c.in-Some.ensures.1
    (rw c.in_default-2.is at c.in_ok-slot.ensures)

pub returns-in-None : goal.returns-in-None
returns-in-None c =
    held_no_bytes c.args.bytes.now c.in-Some.name.now c.in-Some.digits.now c.in-Some.ensures.0 c.in-Some.ensures.1
    (rw c.in-None.is at c.in_ok-bytes.ensures)
