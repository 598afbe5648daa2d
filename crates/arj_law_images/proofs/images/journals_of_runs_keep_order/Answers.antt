use Rattle.arj_law_images.proofs.Items.{images_are_readable, images_keep_order, runs_keep_order}
use Rattle.arj_law_images.proofs.images.journals_of_runs_keep_order.Goals as goal

pub returns : goal.returns
returns c = record { runs = runs_keep_order; images = images_keep_order; readable = images_are_readable }
