use Rattle.arj_segment.proofs.Empty.{keeps_nothing}
use Rattle.arj_segment.proofs.segment.SegmentStoreObjectStore.format.Goals as goal

pub put_first-requires-clause-keeps : goal.put_first-requires-clause-keeps
put_first-requires-clause-keeps g c =
    keeps_nothing c.args.role (g.D.Disk.file c.args.disk.now) c.requires.empty c.new-kept.result c.new-kept.ensures.actions c.new-kept.ensures.holdings c.new-kept.ensures.places c.new-kept.ensures.numbers
