-- the lines so far
use Rattle.std.proofs.Common.{◌≡◌, ◌≤◌, take}
use Rattle.std.specs.List.{count_by}
use Rattle.arj_bank.specs.Summary.{tells}
use Rattle.arj_bank.proofs.summary.count.Given as goal

abbrev pub invariant-loop-line : goal.invariant-loop-line
invariant-loop-line l = record {
  count : l.count ≡ count_by (tells l.told) (take l.line-index l.lines);
  within : l.count ≤ l.line-index;
}
