use Rattle.std.proofs.Common.{◌≡◌}
use Rattle.arj_protocol.specs.Ending.{is_deferred}
use Rattle.arj_coord.proofs.records.Records.is_deferred.Given as goal

-- what is left answers the same as the whole
abbrev pub invariant-loop-top : goal.invariant-loop-top
invariant-loop-top l = is_deferred l.root l.top-iterator l.node ≡ is_deferred l.root l.self l.node
