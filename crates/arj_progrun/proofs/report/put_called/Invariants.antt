-- what is put so far
use Rattle.std.proofs.Common.{◌≡◌, ◌++◌, take}
use Rattle.std.specs.List.{flat_map}
use Rattle.arj_progrun.specs.Kept.{clients_of}
use Rattle.arj_progrun.specs.Schedule.{commit_lines}
use Rattle.arj_text.specs.Label.{name}
use Rattle.arj_progrun.proofs.report.put_called.Given as goal

abbrev pub invariant-loop-client : goal.invariant-loop-client
invariant-loop-client l = l.report ≡ l.fn.report ++ flat_map (commit_lines (name l.label)) (clients_of (take l.client-index l.clients))
