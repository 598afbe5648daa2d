use Rattle.arj_protocol.proofs.NamingTable.{bind_table, note_table, confirm_table, told_table, hello_table}
use Rattle.arj_protocol.proofs.laws.naming_locks_follow_lines.Goals as goal

pub returns-clause-bind : goal.returns-clause-bind
returns-clause-bind c = bind_table

pub returns-clause-note : goal.returns-clause-note
returns-clause-note c = note_table

pub returns-clause-confirm : goal.returns-clause-confirm
returns-clause-confirm c = confirm_table

pub returns-clause-told : goal.returns-clause-told
returns-clause-told c = told_table

pub returns-clause-hello : goal.returns-clause-hello
returns-clause-hello c = hello_table
