use Rattle.std.proofs.Common.{◌≡◌, ◌≤◌, ◌+◌, vec_len, length, reverse}
use Rattle.arj_record.specs.Records.{gathered}
use Rattle.arj_record.proofs.list.hand_all.Given as goal

-- what is left gives the same as the whole, and the parent has room for it
abbrev pub invariant-loop-record : goal.invariant-loop-record
invariant-loop-record g l = record {
  rest : gathered l.parent.records (reverse l.items.items) ≡ gathered l.fn.parent.records l.fn.items.items;
  fits : vec_len l.items ≤ l.parent.spare;
  spare : l.fn.parent.spare + vec_len l.items ≤ l.parent.spare + vec_len l.fn.items;
  room : l.fn.parent.spare + length l.fn.parent.records ≤ l.parent.spare + length l.parent.records;
}

abbrev pub decreases-loop-record : goal.decreases-loop-record
decreases-loop-record g l = vec_len l.items
