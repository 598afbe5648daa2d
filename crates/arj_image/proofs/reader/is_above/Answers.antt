use Rattle.std.specs.Prelude.{nat_lt}
use Rattle.arj_image.proofs.Lasts.{last_at}
use Rattle.arj_image.proofs.reader.is_above.Goals as goal
use Rattle.arj_journal.specs.declared.header.ObjectLine.{ObjectLine}

pub returns-in-len1-up : goal.returns-in-len1-up
returns-in-len1-up c =
    last_at (λ (o : ObjectLine). nat_lt o.x c.args.x) c.args.objects.now c.last-item.result c.in-len1-up.len_at_least c.last-item.is
