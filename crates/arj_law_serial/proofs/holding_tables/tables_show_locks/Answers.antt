use Rattle.arj_law_serial.proofs.holding.Events.{tables_show}
use Rattle.arj_law_serial.proofs.holding_tables.tables_show_locks.Goals as goal

pub returns : goal.returns
returns c = tables_show
