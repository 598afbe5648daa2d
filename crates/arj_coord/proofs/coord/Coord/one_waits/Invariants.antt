use Rattle.std.proofs.Common.{◌≡◌, drop}
use Rattle.std.specs.List.{list_any}
use Rattle.arj_protocol.specs.Step.{waits}
use Rattle.arj_coord.proofs.coord.Coord.one_waits.Given as goal

-- what is left answers the same as the whole
abbrev pub invariant-loop-action : goal.invariant-loop-action
invariant-loop-action l = list_any (waits l.self) (drop l.action-index l.actions) ≡ list_any (waits l.self) l.actions
