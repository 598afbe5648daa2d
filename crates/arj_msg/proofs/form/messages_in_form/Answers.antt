use Rattle.arj_msg.proofs.FormLaws.{message_iff, path_counts}
use Rattle.arj_msg.proofs.Sends.{in_form_sends}
use Rattle.arj_msg.proofs.StateLaws.{state_short}
use Rattle.arj_msg.proofs.form.messages_in_form.Goals as goal

pub returns-clause-form : goal.returns-clause-form
returns-clause-form c = message_iff

pub returns-clause-paths : goal.returns-clause-paths
returns-clause-paths c = path_counts

pub returns-clause-states : goal.returns-clause-states
returns-clause-states c = state_short

pub returns-clause-sends : goal.returns-clause-sends
returns-clause-sends c = in_form_sends
