use Rattle.arj_law_images.proofs.Items.{images_are_clean}
use Rattle.arj_law_images.proofs.images.images_of_runs_are_clean.Goals as goal

pub returns : goal.returns
returns c = images_are_clean
