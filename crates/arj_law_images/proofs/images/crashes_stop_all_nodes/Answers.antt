use Rattle.arj_law_images.proofs.Crashes.{crashes_stop_all, journals_tell_who_is_down}
use Rattle.arj_law_images.proofs.images.crashes_stop_all_nodes.Goals as goal

pub returns : goal.returns
returns c = record { stopped = crashes_stop_all; told = journals_tell_who_is_down }
