use Rattle.std.proofs.Common.{◌≡◌}
use Rattle.arj_coord.specs.Waiting.{waiting, any_passes, is_other}
use Rattle.arj_protocol.specs.Coord.{calls_on}
use Rattle.arj_coord.proofs.coord.Coord.any_calls.Given as goal

-- what is left answers the same as the whole
abbrev pub invariant-loop-number : goal.invariant-loop-number
invariant-loop-number l =
    any_passes (is_other l.root l.but) (calls_on l.x) l.self l.number-iterator ≡ any_passes (is_other l.root l.but) (calls_on l.x) l.self (waiting 1 l.self.doings)
