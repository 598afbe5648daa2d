use Rattle.std.proofs.Common.{sym, ◌∙◌}
use Rattle.arj_image.proofs.Taking.{counts_take, format_takes, object_takes}
use Rattle.arj_image.proofs.reader.objects.Goals as goal

pub returns-in-Some-clause-ok : goal.returns-in-Some-clause-ok
returns-in-Some-clause-ok c =
    let read = rw c.in-Some.is at c.in_ok-events.ensures in
    counts_take c.args.place.now c.args.bytes.now c.in-Some.events c.in-Some.frames c.requires read.0 read.1

pub returns-then-is_text-clause-ok : goal.returns-then-is_text-clause-ok
returns-then-is_text-clause-ok c =
    let fits = c.in_ok-format_line.ensures.ok in
    format_takes c.args.place.now c.args.bytes.now c.format_line.new.format c.requires c.if-is_text.ensures
    (fits.0, sym c.as_slice.ensures ∙ fits.1, fits.2)

pub returns-clause-ok : goal.returns-clause-ok
returns-clause-ok c = object_takes c.args.place.now c.args.bytes.now c.next_object.new.objects c.requires c.in_ok-next_object.ensures.ok
