-- what is put so far
use Rattle.std.proofs.Common.{◌≡◌, ◌++◌, take}
use Rattle.std.specs.List.{flat_map}
use Rattle.arj_progrun.specs.Kept.{clients_of}
use Rattle.arj_progrun.specs.Schedule.{other_line}
use Rattle.arj_progrun.proofs.report.put_others.Given as goal

abbrev pub invariant-loop-client : goal.invariant-loop-client
invariant-loop-client l = l.report ≡ l.fn.report ++ flat_map (λ c. other_line c.phase c) (clients_of (take l.client-index l.clients))
