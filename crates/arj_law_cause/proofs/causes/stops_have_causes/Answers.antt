use Rattle.arj_law_cause.proofs.kinds.Frames.{armed_row, halted_row}
use Rattle.arj_law_cause.proofs.causes.stops_have_causes.Goals as goal

pub returns-clause-armed : goal.returns-clause-armed
returns-clause-armed c = armed_row

pub returns-clause-halted : goal.returns-clause-halted
returns-clause-halted c = halted_row
