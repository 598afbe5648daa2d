use Rattle.arj_law_runs.proofs.forms.World.{runs_say_in_form}
use Rattle.arj_law_runs.proofs.texts.world_lines_are_in_form.Goals as goal

pub returns : goal.returns
returns c = runs_say_in_form
