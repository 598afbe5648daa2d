use Rattle.std.proofs.Common.{◌<◌, arith, length}
use Rattle.arj_store.proofs.Loops.{removes_more, no_shadow_more, releases_more, flags_more, in_at, remove_others}
use Rattle.arj_store.proofs.Counting.{counts_on}
use Rattle.arj_store.proofs.moves.remove_shadows.Goals as goal

pub loop-uid-preserved : goal.loop-uid-preserved
loop-uid-preserved g c =
    let within : c.loop-uid.uid-index < length c.args.objects.now = omega arith in
    let others = remove_others (g.D.Disk.file c.loop-uid.disk) (g.D.Disk.file c.remove_shadow.new.disk) _ c.remove_shadow.ensures.files in
    record {
      moved = removes_more c.args.objects.now _ (g.D.Disk.file c.loop-uid.disk) _ _ (in_at c.args.objects.now c.loop-uid.uid-index _ within) c.loop-uid.invariant.moved c.remove_shadow.ensures.files;
      gone = no_shadow_more c.args.objects.now c.loop-uid.uid-index (g.D.Disk.file c.loop-uid.disk) (g.D.Disk.file c.remove_shadow.new.disk) _ within c.loop-uid.invariant.gone others c.in_ok-remove_shadow.ensures.ok;
      released = releases_more c.args.objects.now c.loop-uid.uid-index _ _ _ _ within c.loop-uid.invariant.released c.remove_shadow.ensures.taken;
      kept = flags_more c.args.objects.now (g.D.Disk.file c.loop-uid.disk) (g.D.Disk.file c.remove_shadow.new.disk) _ _ _ c.loop-uid.invariant.kept c.remove_shadow.ensures.taken c.in_ok-remove_shadow.ensures.ok others;
      counts = counts_on c.in_ok-remove_shadow.ensures.counts c.loop-uid.invariant.counts;
    }

-- also where the call was stopped
pub returns-in_err-remove_shadow-clause-files : goal.returns-in_err-remove_shadow-clause-files
returns-in_err-remove_shadow-clause-files g c =
    let within : c.loop-uid.uid-index < length c.args.objects.now = omega arith in
    removes_more c.args.objects.now _ (g.D.Disk.file c.loop-uid.disk) _ _ (in_at c.args.objects.now c.loop-uid.uid-index _ within) c.loop-uid.invariant.moved c.remove_shadow.ensures.files
