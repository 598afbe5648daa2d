use Rattle.arj_law_cause.proofs.rows.Agreeing.{events_agree, events_begin, events_keep}
use Rattle.arj_law_cause.proofs.tables.tables_agree_inside_events.Goals as goal

pub returns-clause-begin : goal.returns-clause-begin
returns-clause-begin c = events_begin

pub returns-clause-kept : goal.returns-clause-kept
returns-clause-kept c = events_keep

pub returns-clause-agree : goal.returns-clause-agree
returns-clause-agree c = events_agree
