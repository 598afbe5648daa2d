use Rattle.std.proofs.Common.{◌≡◌, ◌∙◌, ◌∷◌, [], ◌++◌, Err, refl, ap, subst, sym, take}
use Rattle.std.proofs.lemmas.List.{take_more}
use Rattle.arj_disk.specs.declared.disk.DiskFault.TheVariants.{Stopped}
use Rattle.arj_world.proofs.Disks.{moved_none, moved_on, stopped_later, unstopped_none, unstopped_on}
use Rattle.arj_resuming.proofs.Writing.{written_more}
use Rattle.arj_resuming.specs.Written.{AreWritten}
use Rattle.arj_resuming.proofs.files.put_files.Goals as goal

pub loop-file-init : goal.loop-file-init
loop-file-init g c = record {
  written = refl;
  moved = moved_none g.D.Disk 16 c.args.rack.now;
  unstopped = unstopped_none g.D.Disk c.args.rack.now;
}

pub loop-file-preserved : goal.loop-file-preserved
loop-file-preserved g c = record {
  written = subst (λ fs. AreWritten g.D.Disk.file fs c.args.rack.now c.put_file.new.rack)
      (ap (λ f. take c.loop-file.file-index c.args.files.now ++ f ∷ []) c.file-item.is
      ∙ sym (take_more c.args.files.now c.loop-file.file-index c.file-item.result c.loop-file-test.true))
      (written_more g.D.Disk.file (take c.loop-file.file-index c.args.files.now) c.file-item.result c.args.rack.now c.loop-file.rack c.put_file.new.rack c.loop-file.invariant.written c.in-Ok.ensures.written);
  moved = moved_on g.D.Disk 16 16 c.args.rack.now c.loop-file.rack c.put_file.new.rack refl c.loop-file.invariant.moved c.put_file.ensures.moved;
  unstopped = unstopped_on g.D.Disk c.args.rack.now c.loop-file.rack c.put_file.new.rack c.loop-file.invariant.unstopped c.in-Ok.ensures.unstopped;
}

pub returns-in-Err-clause-moved : goal.returns-in-Err-clause-moved
returns-in-Err-clause-moved g c =
    moved_on g.D.Disk 16 16 c.args.rack.now c.loop-file.rack c.put_file.new.rack refl c.loop-file.invariant.moved c.put_file.ensures.moved

pub returns-in-Err-clause-stopped : goal.returns-in-Err-clause-stopped
returns-in-Err-clause-stopped g c stopped =
    let same : c.in-Err.fault ≡ Stopped = cc stopped in
    stopped_later g.D.Disk 16 c.args.rack.now c.loop-file.rack c.put_file.new.rack c.loop-file.invariant.moved c.put_file.ensures.moved
    (c.put_file.ensures.stopped (c.in-Err.is ∙ ap Err same))
