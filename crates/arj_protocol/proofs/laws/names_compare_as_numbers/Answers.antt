use Rattle.arj_protocol.proofs.Numbers.{numbers_tell, number_tells, lesser_compares, same_compares}
use Rattle.arj_protocol.proofs.laws.names_compare_as_numbers.Goals as goal

pub returns-clause-uids : goal.returns-clause-uids
returns-clause-uids c = numbers_tell

pub returns-clause-uid : goal.returns-clause-uid
returns-clause-uid c = number_tells

pub returns-clause-lesser : goal.returns-clause-lesser
returns-clause-lesser c = lesser_compares

pub returns-clause-same : goal.returns-clause-same
returns-clause-same c = same_compares
