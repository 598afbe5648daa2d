use Rattle.arj_law_serial.proofs.joint.BookRuns.{runs_keep_the_book}
use Rattle.arj_law_serial.proofs.booked.runs_keep_the_lock_book.Goals as goal

pub returns : goal.returns
returns c = runs_keep_the_book
