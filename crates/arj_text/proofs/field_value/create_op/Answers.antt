use Rattle.arj_text.proofs.Values.{no_create}
use Rattle.arj_text.proofs.field_value.create_op.Goals as goal

pub returns-in-None : goal.returns-in-None
returns-in-None c = no_create c.args.bytes.now c.in-Some.words.now c.in-Some.ensures.cases (rw c.in-None.is at c.in_ok-value.ensures)
