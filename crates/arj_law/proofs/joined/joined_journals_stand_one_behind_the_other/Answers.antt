use Rattle.arj_law.proofs.{JoinedCalls.calls_join, JoinedCalls.tops_join, JoinedLast.serial_tops_join, JoinedOrder.serial_join}
use Rattle.arj_law.proofs.joined.joined_journals_stand_one_behind_the_other.Goals as goal

pub returns-clause-calls : goal.returns-clause-calls
returns-clause-calls c = calls_join

pub returns-clause-tops : goal.returns-clause-tops
returns-clause-tops c = tops_join

pub returns-clause-serial : goal.returns-clause-serial
returns-clause-serial c = serial_join

pub returns-clause-serial_tops : goal.returns-clause-serial_tops
returns-clause-serial_tops c = serial_tops_join
