use Rattle.std.proofs.Common.{◌≡◌}
use Rattle.arj_coord.specs.Waiting.{waiting, any_passes}
use Rattle.arj_protocol.specs.Step.{is_waiting_now}
use Rattle.arj_protocol.specs.Tree.{is_open_below}
use Rattle.arj_coord.proofs.coord.Coord.any_waits_below.Given as goal

-- what is left answers the same as the whole
abbrev pub invariant-loop-number : goal.invariant-loop-number
invariant-loop-number l =
    any_passes (is_open_below l.action) is_waiting_now l.self l.number-iterator ≡ any_passes (is_open_below l.action) is_waiting_now l.self (waiting 1 l.self.doings)
