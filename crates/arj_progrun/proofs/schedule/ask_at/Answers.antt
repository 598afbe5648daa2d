-- one program asks
use Rattle.std.proofs.Common.{refl, arith}
use Rattle.arj_progrun.proofs.Hearing.{item_at}
use Rattle.arj_progrun.proofs.schedule.ask_at.Goals as goal

pub returns-clause-asks : goal.returns-clause-asks
returns-clause-asks c = (
  c.index_mut.result.now,
  c.turn.new.self,
  item_at c.args.clients.now.items c.args.at c.index_mut.result.now (omega (
    arith,
    c.requires.place,
  )) c.index_mut.ensures.value,
  refl,
  c.in_ok-event.ensures,
)
