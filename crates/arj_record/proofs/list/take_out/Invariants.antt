use Rattle.std.proofs.Common.{◌≡◌, ◌≤◌, ◌-◌, ◌++◌, take, drop, vec_len}
use Rattle.std.specs.Vec.{vec_capacity}
use Rattle.arj_record.specs.Records.{forgotten}
use Rattle.arj_record.proofs.list.take_out.Given as goal

-- the records so far are kept, and the rest gives what is left of the whole
abbrev pub invariant-loop-i : goal.invariant-loop-i
invariant-loop-i g l = record {
  within : l.i ≤ vec_len l.items;
  rest : take l.i l.items.items ++ forgotten l.object (drop l.i l.items.items) ≡ forgotten l.object l.fn.items.items;
  capacity : vec_capacity l.items ≡ vec_capacity l.fn.items;
}

abbrev pub decreases-loop-i : goal.decreases-loop-i
decreases-loop-i g l = vec_len l.items - l.i
