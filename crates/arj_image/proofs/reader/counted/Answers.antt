use Rattle.arj_image.proofs.Taking.{journal_takes}
use Rattle.arj_image.proofs.reader.counted.Goals as goal

pub returns-clause-ok : goal.returns-clause-ok
returns-clause-ok c = journal_takes c.args.place.now c.args.bytes.now c.requires c.if-not-is_text.ensures
