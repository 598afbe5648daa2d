use Rattle.std.proofs.Common.{◌≡◌, ◌++◌, ◌≤◌, length}
use Rattle.std.specs.List.{flat_map}
use Rattle.byteorder.specs.Endian.{big_bytes}
use Rattle.arj_class.specs.Forms.{NumbersFit}
use Rattle.arj_class.proofs.queue.QueueObjectClass.restore_state.Given as goal

abbrev pub invariant-loop-number : goal.invariant-loop-number
invariant-loop-number l = record {
  front : l.payload ≡ flat_map (big_bytes 8) l.numbers.items ++ l.rest;
  few : length l.numbers.items ≤ 32;
  fit : NumbersFit l.numbers.items;
}

abbrev pub decreases-loop-number : goal.decreases-loop-number
decreases-loop-number l = length l.rest
