use Rattle.std.proofs.Common.{◌≡◌, List, map, take}
use Rattle.arj_journal.specs.declared.body.Line.{Line}
use Rattle.arj_model.specs.Actions.{acts, committed}
use Rattle.arj_reading.specs.Reading.{HasRead}
use Rattle.arj_replay.specs.Orders.{commits_in, paths}
use Rattle.arj_check.proofs.commits.commit_keys.Given as goal

abbrev pub invariant-loop-number : goal.invariant-loop-number
invariant-loop-number l =
    (lines : List Line) → HasRead lines l.reading →
    map (λ k. k.items) l.keys.items ≡ map (commits_in (committed lines)) (take l.number (paths (acts lines)))
