use Rattle.arj_law_images.proofs.Items.{images_fit, stopped_nodes_fit}
use Rattle.arj_law_images.proofs.images.images_of_runs_fit.Goals as goal

pub returns : goal.returns
returns c = record { fit = images_fit; stopped = stopped_nodes_fit }
