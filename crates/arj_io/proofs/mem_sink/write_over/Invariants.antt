-- what the piece has put into the room so far
use Rattle.std.proofs.Common.{◌≡◌, ◌++◌, ◌-◌, length, take}
use Rattle.arj_io.proofs.mem_sink.write_over.Given as goal

abbrev pub invariant-loop-place : goal.invariant-loop-place
invariant-loop-place l = record {
  room : length l.room ≡ length l.fn.room;
  front : take l.place l.room ≡ take l.start l.fn.room ++ take (l.place - l.start) l.piece;
}
