use Rattle.std.proofs.Common.{◌≡◌}
use Rattle.arj_coord.specs.Waiting.{waiting, any_passes, is_other_constituent}
use Rattle.arj_protocol.specs.Step.{is_committing_now}
use Rattle.arj_coord.proofs.coord.Coord.any_sibling.Given as goal

-- what is left answers the same as the whole
abbrev pub invariant-loop-number : goal.invariant-loop-number
invariant-loop-number l =
    any_passes (is_other_constituent l.root l.but) is_committing_now l.self l.number-iterator ≡ any_passes (is_other_constituent l.root l.but) is_committing_now l.self (waiting 1 l.self.doings)
