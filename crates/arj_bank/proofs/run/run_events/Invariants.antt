-- the events that are left
use Rattle.std.proofs.Common.{◌≡◌, length}
use Rattle.std.specs.Vec.Iter.{into_iter_items, into_iter_len}
use Rattle.arj_bank.specs.Underway.{Underway, moment}
use Rattle.arj_bank.proofs.run.run_events.Given as goal

abbrev pub invariant-loop-event : goal.invariant-loop-event
invariant-loop-event g l = record {
  way : Underway g.M.Machine l.fn.events (into_iter_items l.event-iterator) (moment l.fn.rack l.fn.machine l.fn.journal) (moment l.rack l.machine l.journal);
  left : length (into_iter_items l.event-iterator) ≡ into_iter_len l.event-iterator;
}
