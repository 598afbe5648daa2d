use Rattle.std.proofs.Common.{◌≡◌, ◌-◌}
use Rattle.arj_disk.specs.Says.{new_of}
use Rattle.arj_segment_file.specs.Format.{rows_in, states_in}
use Rattle.arj_segment_file.proofs.rows.packed_in.Given as goal

-- the state is among the rows that are left, if it is there
abbrev pub invariant-loop-row : goal.invariant-loop-row
invariant-loop-row l = new_of (rows_in (l.count - l.row) l.rest) l.uid ≡ new_of (states_in l.bytes) l.uid
