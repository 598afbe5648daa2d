-- The last of the writers so far.
use Rattle.std.proofs.Common.{◌≡◌, take}
use Rattle.arj_base.specs.Uid.{nobody}
use Rattle.arj_last.specs.Survivors.{writer_after}
use Rattle.arj_last.proofs.counting.last_writer.Given as goal

abbrev pub invariant-loop-wrote : goal.invariant-loop-wrote
invariant-loop-wrote l = l.writer ≡ writer_after nobody (take l.wrote-index l.wrotes)
