use Rattle.std.proofs.Common.{◌≡◌}
use Rattle.arj_coord.specs.Ended.{deferred_but}
use Rattle.arj_coord.proofs.records.Records.is_deferred_but.Given as goal

-- what is left answers the same as the whole
abbrev pub invariant-loop-top : goal.invariant-loop-top
invariant-loop-top l = deferred_but l.without l.root l.node l.top-iterator ≡ deferred_but l.without l.root l.node l.self
