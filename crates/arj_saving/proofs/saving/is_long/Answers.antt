-- the lines of an image
use Rattle.std.proofs.Common.{◌+◌, ap, length}
use Rattle.arj_saving.proofs.Lengths.{long_by}
use Rattle.arj_saving.specs.Saved.{image_of}
use Rattle.arj_saving.proofs.saving.is_long.Goals as goal

pub returns : goal.returns
returns c =
    long_by (image_of c.args.header.now c.args.events c.args.lines.now c.args.files.now) c.are_many.result (length c.as_slice-objects.result.now)
    (length c.as_slice.result.now) (length c.as_slice-2.result.now) (4 + c.format_lines-others.result) (ap length c.as_slice-objects.ensures)
    (ap length c.as_slice.ensures) (ap length c.as_slice-2.ensures) (ap (λ n. 4 + n) c.format_lines-others.ensures) c.are_many.ensures
