use Rattle.std.proofs.Common.{◌≡◌, ◌++◌}
use Rattle.arj_protocol.specs.Step.{recovered_records}
use Rattle.arj_coord.proofs.records.Records.recovered.Given as goal

-- the lines so far, and those that are left
abbrev pub invariant-loop-top : goal.invariant-loop-top
invariant-loop-top l = l.outs ++ recovered_records l.node l.top-iterator ≡ l.fn.outs ++ recovered_records l.node l.self
