use Rattle.arj_law_cause.proofs.spelled.Messages.{runs_in_form, runs_spell}
use Rattle.arj_law_cause.proofs.messages.messages_can_be_spelled.Goals as goal

pub returns-clause-runs : goal.returns-clause-runs
returns-clause-runs c = runs_spell

pub returns-clause-forms : goal.returns-clause-forms
returns-clause-forms c = runs_in_form
