use Rattle.arj_lock.proofs.Exclusion.{none_excludes, grant_excludes, drop_excludes, close_excludes, lower_excludes}
use Rattle.arj_lock.proofs.Passing.{pass_excludes}
use Rattle.arj_lock.proofs.laws.rows_exclude.Goals as goal

pub returns-clause-empty : goal.returns-clause-empty
returns-clause-empty c = none_excludes

pub returns-clause-grant : goal.returns-clause-grant
returns-clause-grant c = grant_excludes

pub returns-clause-pass : goal.returns-clause-pass
returns-clause-pass c = pass_excludes

pub returns-clause-drop : goal.returns-clause-drop
returns-clause-drop c = drop_excludes

pub returns-clause-close : goal.returns-clause-close
returns-clause-close c = close_excludes

pub returns-clause-lower : goal.returns-clause-lower
returns-clause-lower c = lower_excludes
