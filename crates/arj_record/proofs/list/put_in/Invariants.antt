use Rattle.std.proofs.Common.{◌≡◌, ◌++◌, take, drop}
use Rattle.arj_record.specs.Records.{added}
use Rattle.arj_record.proofs.list.put_in.Given as goal

-- nothing is changed so far, and the record belongs behind what was looked at
abbrev pub invariant-loop-i : goal.invariant-loop-i
invariant-loop-i g l = record {
  same : l.items ≡ l.fn.items;
  rest : take l.i l.items.items ++ added l.item (drop l.i l.items.items) ≡ added l.fn.item l.fn.items.items;
}
