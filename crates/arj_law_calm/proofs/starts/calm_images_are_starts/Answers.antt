-- by what a calm image leaves
use Rattle.arj_saved.specs.Saved.{disks_of}
use Rattle.arj_law_calm.proofs.{Images.leaves, Nodes.stores_fit}
use Rattle.arj_law_calm.proofs.starts.calm_images_are_starts.Goals as goal
use Rattle.arj_law_calm.specs.Starts.{incs_before}

pub returns-clause-starts : goal.returns-clause-starts
returns-clause-starts c image given form few readable calm = c.journals_leave_starts.ensures.starts image.header image.journal
    (disks_of image.files) (incs_before image.files) given (image.events, image.frames) (leaves image form few readable calm)

pub returns-clause-headers : goal.returns-clause-headers
returns-clause-headers c image form few readable calm = c.journals_leave_starts.ensures.headers image.header image.journal
    (disks_of image.files) (incs_before image.files) (leaves image form few readable calm) (stores_fit image form calm)
