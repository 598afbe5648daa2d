use Rattle.arj_law_images.proofs.Items.{crashed_images_are_calm, stopped_images_are_calm}
use Rattle.arj_law_images.proofs.images.images_of_stopped_runs_are_calm.Goals as goal

pub returns : goal.returns
returns c = record { down = stopped_images_are_calm; crashed = crashed_images_are_calm }
