-- by calls that can be run, and by keys of tops
use Rattle.arj_law_calm.proofs.{Fit.fits, Formed.start_left, Formed.text_last}
use Rattle.arj_law_calm.proofs.starts.journals_leave_starts.Goals as goal

pub returns-clause-starts : goal.returns-clause-starts
returns-clause-starts c header lines disks incs given counts leaves = start_left header lines disks incs leaves
    (c.readable_calls_can_be_run.ensures header lines leaves.readable) (c.readable_tops_have_own_keys.ensures header lines leaves.readable)
    given counts

pub returns-clause-headers : goal.returns-clause-headers
returns-clause-headers c header lines disks incs leaves stores = fits header lines leaves.header_form
    (text_last header lines disks incs leaves (c.readable_calls_can_be_run.ensures header lines leaves.readable)
    (c.readable_tops_have_own_keys.ensures header lines leaves.readable)) stores
