use Rattle.arj_manager.proofs.Views.{undone_is, lowest_image}
use Rattle.arj_manager.proofs.laws.aborts_agree.Goals as goal

pub returns-clause-overlays : goal.returns-clause-overlays
returns-clause-overlays c = undone_is

pub returns-clause-now : goal.returns-clause-now
returns-clause-now c = lowest_image
