-- What is known of copies and votes is kept: all of it together.
use Rattle.arj_law_serial.proofs.joint.{BasedOthers.coord_based, BasedOthers.stop_based, BasedTakes.message_based}
use Rattle.arj_law_serial.specs.joint.BasedSteps.{CoordinatorsKeepBased, MessagesKeepBased, StopsKeepBased}

pub messages_keep : MessagesKeepBased
messages_keep f x k begun S W d t M apart core writers reached are sees planned held e from m v outs posted meant is shown knows =
    message_based f apart x k begun S W core writers reached d t M are sees planned held v from m outs posted meant is shown knows.requests
    knows.used knows.numbered knows.heard_true knows.acked_true knows.query_true e

pub coordinators_keep : CoordinatorsKeepBased
coordinators_keep f x k begun S W d live M L reached are same sent e v outs copies coord says none =
    coord_based f x S W reached k begun d live M are e outs v L same sent (copies, coord) says none

pub stops_keep : StopsKeepBased
stops_keep f x k begun S W d live M reached are e = stop_based f x S W reached k begun d live M are e
