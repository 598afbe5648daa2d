-- one program hears
use Rattle.std.proofs.Common.{refl, arith}
use Rattle.arj_progrun.proofs.Hearing.{item_at}
use Rattle.arj_progrun.proofs.schedule.hear_at.Goals as goal

pub returns-clause-heard : goal.returns-clause-heard
returns-clause-heard c = (
  c.index_mut.result.now,
  c.hear.new.self,
  item_at c.args.clients.now.items c.args.at c.index_mut.result.now (omega (
    arith,
    c.requires.place,
  )) c.index_mut.ensures.value,
  refl,
  c.in_ok-hear.ensures,
)
