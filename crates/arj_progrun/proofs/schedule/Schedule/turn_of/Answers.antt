-- the turn of one program
use Rattle.std.proofs.Common.{refl}
use Rattle.arj_progrun.proofs.Asking.{counts_one, turned_one}
use Rattle.arj_progrun.proofs.schedule.Schedule.turn_of.Goals as goal

pub returns-clause-gives : goal.returns-clause-gives
returns-clause-gives c =
    turned_one c.args.at c.in_ok-event.event c.given_by.result c.args.self.now (record c.args.self.now { clients = c.ask_at.new.clients })
    c.given_by.ensures.ask c.given_by.ensures.by c.in_ok-event.ensures.asks refl refl

pub returns-clause-within : goal.returns-clause-within
returns-clause-within c =
    counts_one c.args.turn c.args.at c.in_ok-event.event c.args.self.now.clients.items c.ask_at.new.clients.items
    c.in_ok-event.ensures.asks c.requires.within.0
