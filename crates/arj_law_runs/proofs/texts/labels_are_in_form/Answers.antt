use Rattle.arj_law_runs.proofs.forms.Labels.{runs_say_labels, runs_say_names}
use Rattle.arj_law_runs.proofs.texts.labels_are_in_form.Goals as goal

pub returns-clause-labels : goal.returns-clause-labels
returns-clause-labels c = runs_say_labels

pub returns-clause-lines : goal.returns-clause-lines
returns-clause-lines c = runs_say_names
