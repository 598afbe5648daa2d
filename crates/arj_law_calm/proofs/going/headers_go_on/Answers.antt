-- by what each readable call is of
use Rattle.arj_law_calm.proofs.Headers.{firsts_held, goes}
use Rattle.arj_law_calm.proofs.going.headers_go_on.Goals as goal

pub returns-clause-goes : goal.returns-clause-goes
returns-clause-goes c header lines readable lists = goes header lines (c.readable_calls_can_be_run.ensures header lines readable) lists

pub returns-clause-held : goal.returns-clause-held
returns-clause-held c header lines form = firsts_held header lines form
