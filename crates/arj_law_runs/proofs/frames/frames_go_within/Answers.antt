use Rattle.arj_law_parts.proofs.Words.{◌≡◌, true}
use Rattle.arj_law_runs.proofs.addresses.Runs.{runs_so, within}
use Rattle.arj_law_runs.proofs.frames.frames_go_within.Goals as goal

pub returns-clause-named : goal.returns-clause-named
returns-clause-named c = λ hd test one nodes objects r. runs_so (λ n. test n ≡ true) one hd nodes objects r

pub returns-clause-runs : goal.returns-clause-runs
returns-clause-runs c = λ hd form r. within hd form r
