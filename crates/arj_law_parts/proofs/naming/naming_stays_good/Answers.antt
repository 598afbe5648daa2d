use Rattle.arj_law_parts.proofs.parts
use parts.{GoodConfirm.confirm_all, GoodEnds.told_good, GoodRestart.restart_good}
use parts.GoodCalls.{bind_good, note_good, hello_good}
use Rattle.arj_law_parts.proofs.naming.naming_stays_good.Goals as goal

pub returns-clause-bind : goal.returns-clause-bind
returns-clause-bind c = bind_good

pub returns-clause-note : goal.returns-clause-note
returns-clause-note c = note_good

pub returns-clause-confirm : goal.returns-clause-confirm
returns-clause-confirm c owner past p grants excluded included n d fits asks good =
    (confirm_all owner past p grants excluded included n d fits asks good).0

pub returns-clause-answer : goal.returns-clause-answer
returns-clause-answer c owner past p grants excluded included n d fits asks good =
    (confirm_all owner past p grants excluded included n d fits asks good).1

pub returns-clause-told : goal.returns-clause-told
returns-clause-told c = told_good

pub returns-clause-hello : goal.returns-clause-hello
returns-clause-hello c = hello_good

pub returns-clause-restart : goal.returns-clause-restart
returns-clause-restart c = restart_good
