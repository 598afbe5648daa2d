use Rattle.std.proofs.Common.{◌≡◌, false, sym, subst, arith}
use Rattle.arj_image.proofs.Taking.{file_out_of_turn}
use Rattle.arj_image.proofs.file.next_file.Goals as goal
use Rattle.arj_image.specs.declared.image.NodeFile.{NodeFile}
use Rattle.arj_image.specs.Texts.{is_before, is_last}

pub returns-then-not-is_behind-clause-bad : goal.returns-then-not-is_behind-clause-bad
returns-then-not-is_behind-clause-bad c bad f fits =
    file_out_of_turn c.args.nodes c.args.bytes.now c.args.files.now c.in-Some.file f (omega (arith, c.ranges.nodes.fits))
    (rw c.in-Some.is at c.in_ok-file.ensures)
    (subst (λ fs. is_last (λ (g : NodeFile). is_before g c.in-Some.file) fs ≡ false) c.as_slice.ensures
    (sym c.if-not-is_behind.ensures)) fits
