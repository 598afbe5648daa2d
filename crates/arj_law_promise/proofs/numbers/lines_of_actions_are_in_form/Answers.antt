use Rattle.arj_law_promise.proofs.numbers.lines_of_actions_are_in_form.Goals as goal
use Rattle.arj_law_promise.proofs.rooms.Actions.{fresh_incs, runs_say_actions}

pub returns-clause-lines : goal.returns-clause-lines
returns-clause-lines c = runs_say_actions

pub returns-clause-fresh : goal.returns-clause-fresh
returns-clause-fresh c = fresh_incs
