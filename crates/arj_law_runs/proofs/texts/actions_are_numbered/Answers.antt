use Rattle.arj_law_runs.proofs.forms.Numbers.{runs_number_actions}
use Rattle.arj_law_runs.proofs.texts.actions_are_numbered.Goals as goal

pub returns : goal.returns
returns c = runs_number_actions
