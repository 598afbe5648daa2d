use Rattle.arj_asking.proofs.Hears.{no_asker_room, room_of_asker}
use Rattle.arj_protocol.specs.Ask.{answers}
use Rattle.arj_asking.proofs.answers.asker_has_room.Goals as goal

pub returns-in-Some : goal.returns-in-Some
returns-in-Some c =
    room_of_asker (answers c.args.message.now) c.in-Some.action c.args.coord.now c.has_room.result c.in-Some.ensures c.has_room.ensures

pub returns-in-None : goal.returns-in-None
returns-in-None c = no_asker_room (answers c.args.message.now) c.args.coord.now c.in-None.ensures
