-- the lines so far
use Rattle.std.proofs.Common.{◌≡◌, ◌≤◌, take}
use Rattle.std.specs.List.{count_by}
use Rattle.arj_main.specs.Refusals.{tells_refusal}
use Rattle.arj_main.proofs.refused.count_of_refused.Given as goal

abbrev pub invariant-loop-line : goal.invariant-loop-line
invariant-loop-line l = record {
  count : l.count ≡ count_by tells_refusal (take l.line-index l.journal);
  within : l.count ≤ l.line-index;
}
