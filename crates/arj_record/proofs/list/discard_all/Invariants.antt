use Rattle.std.proofs.Common.{vec_len}
use Rattle.arj_record.proofs.list.discard_all.Given as goal

abbrev pub decreases-loop-record : goal.decreases-loop-record
decreases-loop-record g l = vec_len l.items
