use Rattle.std.proofs.Common.{refl, subst}
use Rattle.arj_disk.specs.Disk.{Writes}
use Rattle.arj_disk.specs.declared.disk.DiskFault.TheVariants.{Stopped}
use Rattle.arj_world.proofs.Disks.{unstopped_call}
use Rattle.arj_resuming.proofs.files.put_file.Goals as goal

pub returns-in-Ok-clause-written : goal.returns-in-Ok-clause-written
returns-in-Ok-clause-written g c = record {
  was = c.disk.result.now;
  disk = c.write.new.self;
  there = c.disk.ensures.value;
  are = refl;
  writes = subst (Writes (g.D.Disk.file c.disk.result.now) (g.D.Disk.file c.write.new.self) c.args.file.now.slot) c.as_slice.ensures c.in-Ok.ensures.ok;
}

pub returns-in-Ok-clause-unstopped : goal.returns-in-Ok-clause-unstopped
returns-in-Ok-clause-unstopped g c =
    unstopped_call g.D.Disk c.args.file.now.node c.args.rack.now c.disk.result.now c.write.new.self c.write.result Stopped c.requires.0 c.disk.ensures.value c.write.ensures.counts (λ e. cc (e, c.in-Ok.is))
