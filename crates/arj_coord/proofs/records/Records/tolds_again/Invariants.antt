use Rattle.std.proofs.Common.{◌≡◌, ◌++◌}
use Rattle.arj_protocol.specs.Step.{tolds_again}
use Rattle.arj_coord.proofs.records.Records.tolds_again.Given as goal

-- the tolds so far, and those that are left
abbrev pub invariant-loop-top : goal.invariant-loop-top
invariant-loop-top l = l.outs ++ tolds_again l.top-iterator ≡ l.fn.outs ++ tolds_again l.self
