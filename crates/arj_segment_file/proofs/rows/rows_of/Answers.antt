use Rattle.std.proofs.Common.{arith}
use Rattle.arj_segment_file.proofs.Read.{short_file}
use Rattle.arj_segment_file.proofs.rows.rows_of.Goals as goal

pub returns-then-bytes-lt-FILE_HEAD : goal.returns-then-bytes-lt-FILE_HEAD
returns-then-bytes-lt-FILE_HEAD c = short_file c.args.bytes.now (omega arith)
