use Rattle.arj_law_cause.proofs.forms.Lines.{runs_are_in_form}
use Rattle.arj_law_cause.proofs.form.journals_are_in_form.Goals as goal

pub returns : goal.returns
returns c = record { runs = runs_are_in_form }
