use Rattle.arj_text.proofs.Values.{no_put}
use Rattle.arj_text.proofs.field_value.put_op.Goals as goal

pub returns-in-None : goal.returns-in-None
returns-in-None c =
    no_put c.args.bytes.now c.in-Some.arguments.now c.in-Some.ensures.cases (rw c.in_default-2.is at c.in_ok-value.ensures) (rw c.in-None.is at c.in_ok-key.ensures)
