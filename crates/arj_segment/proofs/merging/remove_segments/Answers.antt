use Rattle.std.proofs.Common.{◌<◌, arith, length}
use Rattle.std.proofs.lemmas.List.Elements.{Contains-get_or}
use Rattle.arj_store.proofs.Counting.{counts_on}
use Rattle.arj_segment.proofs.Olds.{gone_more, removes_or_not}
use Rattle.arj_segment.proofs.merging.remove_segments.Goals as goal

pub loop-number-preserved : goal.loop-number-preserved
loop-number-preserved g c =
    let within : c.loop-number.number-index < length c.args.numbers.now = omega arith in
    record {
      files = removes_or_not c.args.role c.args.numbers.now _ (Contains-get_or c.args.numbers.now c.loop-number.number-index _ within) (g.D.Disk.file c.args.disk.now) (g.D.Disk.file c.loop-number.disk) (g.D.Disk.file c.remove.new.self) c.loop-number.invariant.files c.remove.ensures.files;
      gone = gone_more c.args.role c.args.numbers.now c.loop-number.number-index _ (g.D.Disk.file c.loop-number.disk) (g.D.Disk.file c.remove.new.self) within c.loop-number.invariant.gone c.in_ok-remove.ensures.ok;
      counts = counts_on c.in_ok-remove.ensures.counts c.loop-number.invariant.counts;
    }

pub returns-in_err-remove-clause-files : goal.returns-in_err-remove-clause-files
returns-in_err-remove-clause-files g c =
    let within : c.loop-number.number-index < length c.args.numbers.now = omega arith in
    removes_or_not c.args.role c.args.numbers.now _ (Contains-get_or c.args.numbers.now c.loop-number.number-index _ within) (g.D.Disk.file c.args.disk.now) (g.D.Disk.file c.loop-number.disk) (g.D.Disk.file c.remove.new.self) c.loop-number.invariant.files c.remove.ensures.files
