use Rattle.arj_book.proofs.Keys.{time_test}
use Rattle.arj_book.proofs.keeps.are_timely.Goals as goal

pub returns : goal.returns
returns c = λ keys. time_test c.args.lines.now c.are_in_time.result _ keys c.are_in_time.ensures
