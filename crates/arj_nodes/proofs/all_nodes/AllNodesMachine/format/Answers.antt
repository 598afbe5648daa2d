-- the nodes as they are formatted
use Rattle.std.proofs.Common.{refl, sym}
use Rattle.arj_start.specs.Start.{fresh}
use Rattle.arj_nodes.proofs.Turning.{ran_none}
use Rattle.arj_nodes.proofs.all_nodes.AllNodesMachine.format.Goals as goal

pub returns-in-Ok-clause-made : goal.returns-in-Ok-clause-made
returns-in-Ok-clause-made g c =
    let s = c.in-Ok.ensures.stands in
    let ready = c.requires.ready in
    (ran_none g.C.Core g.D.Disk c.args.header fresh c.in-Ok.world c.args.rack.now c.format.new.rack ready.1 s c.format.ensures.disks (c.in-Ok.ensures.unstopped (λ e. absurd (cc e))), sym s.event, refl)

pub format-requires-clause-empty : goal.format-requires-clause-empty
format-requires-clause-empty g c = let ready = c.requires.ready in ready.0
