use Rattle.arj_store.proofs.Rows.{did_prepare, did_commit, did_some, did_abort}
use Rattle.arj_store.proofs.laws.calls_are_effects.Goals as goal

pub returns-clause-prepare : goal.returns-clause-prepare
returns-clause-prepare c = did_prepare

pub returns-clause-commit : goal.returns-clause-commit
returns-clause-commit c = did_commit

pub returns-clause-part : goal.returns-clause-part
returns-clause-part c = did_some

pub returns-clause-abort : goal.returns-clause-abort
returns-clause-abort c = did_abort
