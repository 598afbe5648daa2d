use Rattle.arj_manager.proofs.Runs.{overlays_run, images_run}
use Rattle.arj_manager.proofs.laws.views_agree.Goals as goal

pub returns-clause-overlays : goal.returns-clause-overlays
returns-clause-overlays c = overlays_run

pub returns-clause-images : goal.returns-clause-images
returns-clause-images c = images_run
