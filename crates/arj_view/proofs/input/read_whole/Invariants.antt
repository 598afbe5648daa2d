-- There is room, no read has failed, and what was read is the front of what was left.
use Rattle.std.proofs.Common.{◌≡◌, ◌<◌, length}
use Rattle.arj_io.specs.Told.{Gives}
use Rattle.arj_view.proofs.input.read_whole.Given as goal

abbrev pub invariant-loop : goal.invariant-loop
invariant-loop g l = record {
  room : 0 < length l.room.items;
  steady : g.S.Source.faults l.source ≡ g.S.Source.faults l.fn.source;
  gives : Gives (g.S.Source.left l.fn.source) l.bytes.items (g.S.Source.left l.source);
}
