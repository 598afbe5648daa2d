-- from the entry to the balance
use Rattle.std.proofs.Common.{Err, ap, refl, subst}
use Rattle.arj_bank.specs.Balances.{Held, held_by, node_holds, reader}
use Rattle.arj_disk.specs.declared.slot.Role.TheVariants.{Store, Names}
use Rattle.arj_store.specs.declared.answer.StoreFault.TheVariants.{Stopped}
use Rattle.arj_store.specs.Pair.{Packs}
use Rattle.arj_gen.specs.declared.bank.TheConstants.{NODES}
use Rattle.arj_world.proofs.Disks.{moved_on, same_fault, stopped_later, unstopped_on}
use Rattle.arj_bank.proofs.balances.balance.Goals as goal

pub returns-in_ok-balance-in-Ok-clause-balance : goal.returns-in_ok-balance-in-Ok-clause-balance
returns-in_ok-balance-in-Ok-clause-balance g c =
    let held : Held = node_holds (reader g.D.Disk (held_by g.O.ObjectStore)) c.args.rack.now in record {
      named = c.in_ok-named.named;
      named_is = subst (λ uid. Packs (held 1 Names uid) c.in_ok-named.named) c.entry_uid.ensures c.in_ok-named.ensures.packs;
      store = c.in_ok-store.store;
      listed = c.in_ok-store.ensures;
      state = c.in-Ok.state;
      state_is = subst (λ uid. Packs (held c.in_ok-store.store Store uid) c.in-Ok.state) c.object_uid.ensures
          (subst (λ files. Packs (held_by g.O.ObjectStore (files c.in_ok-store.store) Store c.object_uid.result) c.in-Ok.state) c.committed_at.ensures.files c.in-Ok.ensures.packs);
      balance_is = c.in_ok-balance-in-Ok.ensures;
    }

pub returns-in_ok-balance-in-Ok-clause-moved : goal.returns-in_ok-balance-in-Ok-clause-moved
returns-in_ok-balance-in-Ok-clause-moved g c =
    moved_on g.D.Disk NODES NODES c.args.rack.now c.committed_at.new.rack c.committed_at-2.new.rack refl c.committed_at.ensures.moved c.committed_at-2.ensures.moved

pub returns-in_ok-balance-in-Ok-clause-unstopped : goal.returns-in_ok-balance-in-Ok-clause-unstopped
returns-in_ok-balance-in-Ok-clause-unstopped g c =
    unstopped_on g.D.Disk c.args.rack.now c.committed_at.new.rack c.committed_at-2.new.rack c.in_ok-named.ensures.unstopped c.in-Ok.ensures.unstopped

pub returns-in_err-balance-in-Ok-clause-moved : goal.returns-in_err-balance-in-Ok-clause-moved
returns-in_err-balance-in-Ok-clause-moved g c =
    moved_on g.D.Disk NODES NODES c.args.rack.now c.committed_at.new.rack c.committed_at-2.new.rack refl c.committed_at.ensures.moved c.committed_at-2.ensures.moved

pub returns-in-Err-clause-moved : goal.returns-in-Err-clause-moved
returns-in-Err-clause-moved g c =
    moved_on g.D.Disk NODES NODES c.args.rack.now c.committed_at.new.rack c.committed_at-2.new.rack refl c.committed_at.ensures.moved c.committed_at-2.ensures.moved

pub returns-in-Err-clause-stopped : goal.returns-in-Err-clause-stopped
returns-in-Err-clause-stopped g c is =
    stopped_later g.D.Disk NODES c.args.rack.now c.committed_at.new.rack c.committed_at-2.new.rack c.committed_at.ensures.moved c.committed_at-2.ensures.moved (c.in-Err.ensures.stopped (ap Err (same_fault (Err c.in-Err.fault) c.in-Err.fault Stopped refl is)))
