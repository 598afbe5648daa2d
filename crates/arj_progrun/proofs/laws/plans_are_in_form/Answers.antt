-- plans in form
use Rattle.arj_progrun.proofs.InForm.{plan_in_form}
use Rattle.arj_progrun.proofs.laws.plans_are_in_form.Goals as goal

pub returns : goal.returns
returns c plan header lines = plan_in_form plan header lines
