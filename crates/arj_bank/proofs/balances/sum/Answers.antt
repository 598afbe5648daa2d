-- balance after balance
use Rattle.std.proofs.Common.{Err, ap, refl, ◌∙◌}
use Rattle.arj_bank.specs.Balances.{held_by, node_holds, reader}
use Rattle.arj_bank.proofs.Reading.{add_more}
use Rattle.arj_store.specs.declared.answer.StoreFault.TheVariants.{Stopped}
use Rattle.arj_gen.specs.declared.bank.TheConstants.{NODES}
use Rattle.arj_world.proofs.Disks.{moved_on, same_fault, stopped_later, unstopped_on}
use Rattle.arj_bank.proofs.balances.sum.Goals as goal

pub returns-in-Err-clause-moved : goal.returns-in-Err-clause-moved
returns-in-Err-clause-moved g c =
    moved_on g.D.Disk NODES NODES c.args.rack.now c.loop-k.rack c.balance.new.rack refl c.loop-k.invariant.moved c.balance.ensures.moved

pub returns-in-Err-clause-stopped : goal.returns-in-Err-clause-stopped
returns-in-Err-clause-stopped g c is =
    stopped_later g.D.Disk NODES c.args.rack.now c.loop-k.rack c.balance.new.rack c.loop-k.invariant.moved c.balance.ensures.moved (c.in-Err.ensures.stopped (ap Err (same_fault (Err c.in-Err.fault) c.in-Err.fault Stopped refl is)))

pub loop-k-preserved : goal.loop-k-preserved
loop-k-preserved g c = record {
  adds = add_more (node_holds (reader g.D.Disk (held_by g.O.ObjectStore)) c.args.rack.now) (node_holds (reader g.D.Disk (held_by g.O.ObjectStore)) c.loop-k.rack) c.loop-k.k c.loop-k.sum c.in-Ok.balance c.added-sum.result (λ i node. held_by g.O.ObjectStore (c.loop-k.invariant.files i node)) c.loop-k.invariant.adds c.in-Ok.ensures.balance c.added-sum.ensures;
  files = c.balance.ensures.files ∙ c.loop-k.invariant.files;
  moved = moved_on g.D.Disk NODES NODES c.args.rack.now c.loop-k.rack c.balance.new.rack refl c.loop-k.invariant.moved c.balance.ensures.moved;
  unstopped = unstopped_on g.D.Disk c.args.rack.now c.loop-k.rack c.balance.new.rack c.loop-k.invariant.unstopped c.in-Ok.ensures.unstopped;
}
