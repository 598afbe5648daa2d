use Rattle.std.proofs.Common.{◌∙◌, ap, sym, rules}
use Rattle.arj_image.proofs.Taking.{said_ended}
use Rattle.arj_image.proofs.reader.line_of.Goals as goal

pub returns-in-Ok-clause-ok : goal.returns-in-Ok-clause-ok
returns-in-Ok-clause-ok c =
    (c.in-Ok.ensures.read.0, said_ended c.args.bytes.now c.as_slice.result.now c.in-Ok.line (search rules) c.in-Ok.ensures.read.1)
