use Rattle.arj_protocol.proofs.CoordSays.{acts_own, heard_own, acked_own, query_own, again_own}
use Rattle.arj_protocol.proofs.PartSays.{activate_own, invoke_own, vote_own, ends_own, bind_own, note_own, confirm_own, told_own}
use Rattle.arj_protocol.proofs.laws.parts_act_alone.Goals as goal

pub returns-clause-activate : goal.returns-clause-activate
returns-clause-activate c = activate_own

pub returns-clause-invoke : goal.returns-clause-invoke
returns-clause-invoke c = invoke_own

pub returns-clause-vote : goal.returns-clause-vote
returns-clause-vote c = vote_own

pub returns-clause-server_told : goal.returns-clause-server_told
returns-clause-server_told c = ends_own

pub returns-clause-bind : goal.returns-clause-bind
returns-clause-bind c = bind_own

pub returns-clause-note : goal.returns-clause-note
returns-clause-note c = note_own

pub returns-clause-confirm : goal.returns-clause-confirm
returns-clause-confirm c = confirm_own

pub returns-clause-naming_told : goal.returns-clause-naming_told
returns-clause-naming_told c = told_own

pub returns-clause-acts : goal.returns-clause-acts
returns-clause-acts c = acts_own

pub returns-clause-heard : goal.returns-clause-heard
returns-clause-heard c = heard_own

pub returns-clause-acked : goal.returns-clause-acked
returns-clause-acked c = acked_own

pub returns-clause-query : goal.returns-clause-query
returns-clause-query c = query_own

pub returns-clause-again : goal.returns-clause-again
returns-clause-again c = again_own
