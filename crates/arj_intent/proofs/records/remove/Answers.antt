use Rattle.std.proofs.lemmas.Result.{on_ok_weaker}
use Rattle.arj_disk.specs.Disk.{Removes}
use Rattle.arj_disk.specs.declared.slot.Slot.TheVariants as slot
use Rattle.arj_intent.proofs.Done.{has_removed, cut_removed}
use Rattle.arj_intent.proofs.Stays.{removed_stays}
use Rattle.arj_intent.proofs.records.remove.Goals as goal

pub returns-clause-work : goal.returns-clause-work
returns-clause-work g c = on_ok_weaker c.remove.result
    (λ (gone : Removes (g.D.Disk.file c.args.disk.now) (g.D.Disk.file c.remove.new.self) (slot.Intent c.args.top)).
    has_removed (g.D.Disk.file c.args.disk.now) (g.D.Disk.file c.remove.new.self) c.args.top (λ q other _. gone.others q other) gone.gone) c.remove.ensures.ok

pub returns-clause-stopped : goal.returns-clause-stopped
returns-clause-stopped g c =
    λ _. cut_removed (g.D.Disk.file c.args.disk.now) (g.D.Disk.file c.remove.new.self) c.args.top c.remove.ensures.files

pub returns-clause-form : goal.returns-clause-form
returns-clause-form g c =
    (removed_stays (g.D.Disk.file c.args.disk.now) (g.D.Disk.file c.remove.new.self) c.args.top c.remove.ensures.files).form

pub returns-clause-roles : goal.returns-clause-roles
returns-clause-roles g c =
    (removed_stays (g.D.Disk.file c.args.disk.now) (g.D.Disk.file c.remove.new.self) c.args.top c.remove.ensures.files).roles
