-- The lines so far are of the event or of those before it.
use Rattle.std.proofs.Common.{◌≤◌, take}
use Rattle.std.specs.List.{AllByRecursion}
use Rattle.arj_seen.proofs.blocks.split_event.Given as goal

abbrev pub invariant-loop-at : goal.invariant-loop-at
invariant-loop-at l = AllByRecursion (λ line. line.event ≤ l.event) (take l.at l.lines)
