use Rattle.arj_law_images.proofs.Resting.{resting_runs}
use Rattle.arj_law_images.proofs.saving.resting_runs_make_calm_images.Goals as goal

pub returns : goal.returns
returns g c = resting_runs g.C.Core g.D.Disk
