-- the run, and what it came to
use Rattle.std.proofs.Common.{Err, ap, inl, inr, refl, subst}
use Rattle.arj_bank.specs.Balances.{Reader, held_by, reader}
use Rattle.arj_bank.specs.Bank.{IsSummary, SumsUp, left}
use Rattle.arj_bank.specs.declared.stop.Stop.TheVariants.{Disk, Limit, Memory}
use Rattle.arj_gen.specs.declared.bank.TheConstants.{NODES}
use Rattle.arj_world.specs.Disks.{HaveNotStopped}
use Rattle.arj_world.proofs.Disks.{moved_none, same_fault}
use Rattle.arj_bank.proofs.Ending.{if_ok_with, read_none, wants_sum}
use Rattle.arj_bank.proofs.summed.summary.Goals as goal

pub returns-in-Ok-clause-text : goal.returns-in-Ok-clause-text
returns-in-Ok-clause-text g c =
    let r : Reader g.row.D.Denot = reader g.D.Disk (held_by g.O.ObjectStore) in
    if_ok_with c.sum_up.result (SumsUp r c.in-Ok.events c.run_bank.new.rack c.run_bank.new.journal) (IsSummary g.M.Machine r c.args.n c.args.rack.now (left c.sum_up.new.rack c.run_bank.new.journal c.run_bank.new.machine))
    (HaveNotStopped g.D.Disk c.run_bank.new.rack c.sum_up.new.rack)
    (λ text sums unstopped. record {
      mid = c.run_bank.new.rack;
      ran = c.in-Ok.ensures.ran;
      sums = subst (λ count. SumsUp r count c.run_bank.new.rack c.run_bank.new.journal text) c.in-Ok.ensures.count sums;
      read = record { files = c.sum_up.ensures.files; moved = c.sum_up.ensures.moved };
      unstopped = unstopped;
    })
    c.sum_up.ensures.text c.sum_up.ensures.unstopped

pub returns-in-Ok-clause-limit : goal.returns-in-Ok-clause-limit
returns-in-Ok-clause-limit g c is = absurd (c.sum_up.ensures.limit is)

pub returns-in-Ok-clause-stopped : goal.returns-in-Ok-clause-stopped
returns-in-Ok-clause-stopped g c is =
    inr (record {
      mid = c.run_bank.new.rack;
      ran = c.in-Ok.ensures.ran;
      read =
          record { files = c.sum_up.ensures.files; moved = c.sum_up.ensures.moved };
      stopped = c.sum_up.ensures.stopped is;
    })

pub returns-in-Ok-clause-memory : goal.returns-in-Ok-clause-memory
returns-in-Ok-clause-memory g c is =
    wants_sum g.M.Machine g.D.Disk c.args.n c.args.rack.now (left c.run_bank.new.rack c.run_bank.new.journal c.run_bank.new.machine) c.sum_up.new.rack c.in-Ok.ensures.ran
    (record { files = c.sum_up.ensures.files; moved = c.sum_up.ensures.moved })

pub returns-in-Err-clause-limit : goal.returns-in-Err-clause-limit
returns-in-Err-clause-limit g c is = c.in-Err.ensures.limit (ap Err (same_fault (Err c.in-Err.stop) c.in-Err.stop Limit refl is))

pub returns-in-Err-clause-stopped : goal.returns-in-Err-clause-stopped
returns-in-Err-clause-stopped g c is = inl (c.in-Err.ensures.stopped (ap Err (same_fault (Err c.in-Err.stop) c.in-Err.stop Disk refl is)))

pub returns-in-Err-clause-memory : goal.returns-in-Err-clause-memory
returns-in-Err-clause-memory g c is =
    record {
      mid = c.run_bank.new.rack;
      comes =
          c.in-Err.ensures.memory (ap Err (same_fault (Err c.in-Err.stop) c.in-Err.stop Memory refl is));
      read =
          read_none g.D.Disk c.run_bank.new.rack;
    }
