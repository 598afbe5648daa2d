use Rattle.arj_image.proofs.Taking.{files_take, said_takes}
use Rattle.arj_image.proofs.reader.journal.Goals as goal

pub returns-then-is_text-clause-ok : goal.returns-then-is_text-clause-ok
returns-then-is_text-clause-ok c = files_take c.args.place.now c.args.bytes.now c.requires c.if-is_text.ensures

pub returns-clause-ok : goal.returns-clause-ok
returns-clause-ok c =
    said_takes c.args.place.now c.args.bytes.now c.in_ok-line.line c.push.new.self c.requires c.in_ok-line.ensures.ok.0
    c.in_ok-line.ensures.ok.1 c.in_ok-push.ensures.ok
