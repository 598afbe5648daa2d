use Rattle.std.specs.Fmt.{decimal}
use Rattle.std.proofs.Common.{subst}
use Rattle.arj_image.proofs.FileTexts.{file_no_held}
use Rattle.arj_image.proofs.file.file.Goals as goal
use Rattle.arj_text.specs.Fields.{IsFirst, IsWithin}

pub returns-in-None : goal.returns-in-None
returns-in-None c =
    let read = rw c.in-Some.is at c.in_ok-node.ensures in
    file_no_held c.args.nodes c.args.bytes.now c.in-Some.node c.in-Some.rest.now
    (subst (λ n. IsFirst 32 (IsWithin 1 n) decimal c.args.bytes.now c.in-Some.node c.in-Some.rest.now) c.from.ensures read)
    (rw c.in-None.is at c.in_ok-slot.ensures)
