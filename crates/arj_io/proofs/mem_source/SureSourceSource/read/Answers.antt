-- what was copied stood first among the bytes left
use Rattle.std.proofs.Common.{take}
use Rattle.arj_io.proofs.Moved.{moved_front}
use Rattle.arj_io.proofs.mem_source.SureSourceSource.read.Goals as goal

pub returns-clause-moved : goal.returns-clause-moved
returns-clause-moved c =
    moved_front c.as_slice.result.now c.self.inside.bytes c.args.self.now (take c.copy_front-count.result c.copy_front-count.new.buf) c.self.inside.at c.copy_front-count.result c.as_slice.ensures c.self.view_is c.copy_front-count.ensures.copied
