use Rattle.arj_parts.proofs.Performed.{removed_does}
use Rattle.arj_parts.proofs.performing.remove_record.Goals as goal

pub returns-in-Ok-clause-done : goal.returns-in-Ok-clause-done
returns-in-Ok-clause-done g c =
    removed_does c.args.top (g.D.Disk.file c.args.disk.now) (g.D.Disk.file c.remove.new.disk) c.args.records.now c.remove-in-Ok.new.self c.args.outs.now c.in-Ok.ensures.work c.remove-in-Ok.ensures
