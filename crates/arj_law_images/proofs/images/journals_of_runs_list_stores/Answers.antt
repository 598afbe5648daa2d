use Rattle.arj_law_images.proofs.Items.{images_list_stores, runs_list_stores}
use Rattle.arj_law_images.proofs.images.journals_of_runs_list_stores.Goals as goal

pub returns : goal.returns
returns c = record { runs = runs_list_stores; images = images_list_stores }
