use Rattle.arj_image.proofs.Taking.{start_takes}
use Rattle.arj_image.proofs.reader.start.Goals as goal

pub returns-clause-ok : goal.returns-clause-ok
returns-clause-ok c =
    let read = rw c.in-Some.is at c.in_ok-nodes.ensures in
    start_takes c.args.place.now c.args.bytes.now c.in-Some.nodes c.requires read.0 read.1
