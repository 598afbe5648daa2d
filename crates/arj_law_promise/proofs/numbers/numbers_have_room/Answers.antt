use Rattle.arj_law_promise.proofs.numbers.numbers_have_room.Goals as goal
use Rattle.arj_law_promise.proofs.rooms.{Incs.incs_next, Incs.incs_rise, Numbers.numbers_rise, Numbers.numbers_room}

pub returns-clause-incarnations : goal.returns-clause-incarnations
returns-clause-incarnations c = incs_rise

pub returns-clause-next : goal.returns-clause-next
returns-clause-next c = incs_next

pub returns-clause-requests : goal.returns-clause-requests
returns-clause-requests c = numbers_rise

pub returns-clause-room : goal.returns-clause-room
returns-clause-room c = numbers_room
