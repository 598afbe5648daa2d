use Rattle.arj_text.proofs.Values.{op_in_form, value_in_form}
use Rattle.arj_text.proofs.laws.texts_say_what_is_in_form.Goals as goal

pub returns-clause-op : goal.returns-clause-op
returns-clause-op c = op_in_form

pub returns-clause-value : goal.returns-clause-value
returns-clause-value c = value_in_form
