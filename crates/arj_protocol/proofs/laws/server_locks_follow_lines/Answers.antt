use Rattle.arj_protocol.proofs.ServerTable.{activate_table, invoke_table, vote_table, ends_table}
use Rattle.arj_protocol.proofs.laws.server_locks_follow_lines.Goals as goal

pub returns-clause-activate : goal.returns-clause-activate
returns-clause-activate c = activate_table

pub returns-clause-invoke : goal.returns-clause-invoke
returns-clause-invoke c = invoke_table

pub returns-clause-vote : goal.returns-clause-vote
returns-clause-vote c = vote_table

pub returns-clause-told : goal.returns-clause-told
returns-clause-told c = ends_table
