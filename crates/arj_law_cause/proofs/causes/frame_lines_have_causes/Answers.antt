use Rattle.arj_law_cause.proofs.kinds.Frames.{dropped_row, got_row, sent_row, void_row}
use Rattle.arj_law_cause.proofs.causes.frame_lines_have_causes.Goals as goal

pub returns-clause-sent : goal.returns-clause-sent
returns-clause-sent c = sent_row

pub returns-clause-got : goal.returns-clause-got
returns-clause-got c = got_row

pub returns-clause-void : goal.returns-clause-void
returns-clause-void c = void_row

pub returns-clause-dropped : goal.returns-clause-dropped
returns-clause-dropped c = dropped_row
