-- what is put so far
use Rattle.std.proofs.Common.{◌≡◌, ◌++◌, take, map}
use Rattle.std.specs.List.{flat_map}
use Rattle.arj_progrun.specs.Kept.{clients_of}
use Rattle.arj_progrun.specs.Schedule.{commit_lines}
use Rattle.arj_text.specs.Label.{name}
use Rattle.arj_progrun.proofs.report.put_all_called.Given as goal

abbrev pub invariant-loop-label : goal.invariant-loop-label
invariant-loop-label l =
    l.report ≡ l.fn.report ++ flat_map (λ label. flat_map (commit_lines label) (clients_of l.clients))
    (map name (take l.label-index l.called))
