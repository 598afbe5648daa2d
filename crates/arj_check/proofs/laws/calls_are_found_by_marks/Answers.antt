use Rattle.arj_check.proofs.Loops.{nested_start, serial_start}
use Rattle.arj_check.proofs.laws.calls_are_found_by_marks.Goals as goal

pub returns-clause-serial : goal.returns-clause-serial
returns-clause-serial c = serial_start

pub returns-clause-nested : goal.returns-clause-nested
returns-clause-nested c = nested_start
