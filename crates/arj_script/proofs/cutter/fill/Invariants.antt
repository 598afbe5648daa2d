-- The line in hand has the bytes so far behind it, and none of them ends it.
use Rattle.std.proofs.Common.{◌≡◌, ◌≤◌, ◌++◌, length, take}
use Rattle.arj_script.proofs.Lines.{HasNoEnd}
use Rattle.arj_script.proofs.cutter.fill.Given as goal

abbrev pub invariant-loop-at : goal.invariant-loop-at
invariant-loop-at l = record {
  size : length l.room.items ≡ length l.initial.room.items;
  short : l.count ≤ length l.initial.room.items;
  none : HasNoEnd (take l.at l.piece);
  is : take l.count l.room.items ≡ take l.filled l.initial.room.items ++ take l.at l.piece;
}
