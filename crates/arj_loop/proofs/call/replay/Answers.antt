-- what holds where memory was wanting before the first read
use Rattle.arj_loop.proofs.Sessions.{short_first}
use Rattle.arj_loop.proofs.call.replay.Goals as goal

pub returns-in-Err-clause-short : goal.returns-in-Err-clause-short
returns-in-Err-clause-short g c _ =
    short_first g.M.Machine (g.S.AskedSource.left c.args.source.now) (g.S.AskedSource.faults c.args.source.now) (g.K.Sink.taken c.args.sink.now) c.args.rack.now c.requires.ready
