use Rattle.std.proofs.Common.{◌<◌, ◌∙◌, arith, length}
use Rattle.arj_store.specs.Table.{at}
use Rattle.arj_store.proofs.Finding.{read_more}
use Rattle.arj_store.proofs.Counting.{counts_on}
use Rattle.arj_store.proofs.recovery.read_each.Goals as goal

pub loop-uid-preserved : goal.loop-uid-preserved
loop-uid-preserved g c =
    let within : c.loop-uid.uid-index < length c.args.entries.now = omega arith in
    record {
      read = read_more c.args.place (g.D.Disk.file c.args.disk.now) (g.D.Disk.file c.loop-uid.disk) c.args.entries.now c.loop-uid.uid-index _ c.in_ok-state.state (at c.loop-uid.states) (at c.set.new.self)
          within c.loop-uid.invariant.files c.loop-uid.invariant.read c.in_ok-state.ensures.state c.in_ok-set.ensures.ok;
      files = c.read_entry.ensures.files ∙ c.loop-uid.invariant.files;
      counts = counts_on c.in_ok-state.ensures.counts c.loop-uid.invariant.counts;
    }
