use Rattle.arj_class.proofs.Keeping.{come_form}
use Rattle.arj_class.proofs.op.Op.is_in_form.Goals as goal

pub returns-in-Create-clause-form : goal.returns-in-Create-clause-form
returns-in-Create-clause-form c =
    rw (c.in-Create.is, c.is_gone.ensures) (come_form c.in-Create.value c.in_form.ensures)
