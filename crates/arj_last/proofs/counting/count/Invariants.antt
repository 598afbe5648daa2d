-- The tops of the writes so far.
use Rattle.std.proofs.Common.{◌≡◌, ◌≤◌, ℕ, take}
use Rattle.std.specs.Prelude.{is_some}
use Rattle.std.specs.BTreeMap.{get}
use Rattle.std.specs.Ordering.{nat_cmp}
use Rattle.arj_last.specs.Survivors.{count_wrotes, has_wrote}
use Rattle.arj_last.proofs.counting.count.Given as goal

abbrev pub invariant-loop-wrote : goal.invariant-loop-wrote
invariant-loop-wrote l = record {
  count : l.count ≡ count_wrotes (take l.wrote-index l.wrotes);
  few : l.count ≤ l.wrote-index;
  tops : (n : ℕ) → is_some (get nat_cmp l.tops n) ≡ has_wrote (take l.wrote-index l.wrotes) n;
}
