use Rattle.arj_law_images.proofs.Items.{images_hold_past, images_name_objects}
use Rattle.arj_law_images.proofs.images.images_of_runs_hold_past_states.Goals as goal

pub returns : goal.returns
returns c = record { past = images_hold_past; entries = images_name_objects }
