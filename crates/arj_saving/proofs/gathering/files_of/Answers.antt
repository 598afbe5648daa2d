use Rattle.std.proofs.Common.{Err, ap, ◌≡◌, ◌∙◌, sym}
use Rattle.arj_disk.specs.declared.disk.DiskFault.TheVariants as disk_fault
use Rattle.arj_saving.proofs.Racks.{gathered_more, none_gathered, read_more, risen}
use Rattle.arj_saving.proofs.gathering.files_of.Goals as goal

pub loop-done-init : goal.loop-done-init
loop-done-init g c = none_gathered g.D.Disk c.args.nodes c.args.rack.now c.new-files.result c.new-files.ensures

pub loop-done-preserved : goal.loop-done-preserved
loop-done-preserved g c =
    gathered_more g.D.Disk c.args.nodes c.args.rack.now c.loop-done.rack c.disk.result.now c.put_files.new.disk c.loop-done.done c.loop-done.files c.loop-done.invariant c.disk.ensures.value
    c.put_files.result disk_fault.Stopped c.put_files.ensures.counts c.loop-done-test.true
    c.put_files.new.files c.put_files.ensures.same (λ e. absurd (cc (sym c.in-Ok.is ∙ e))) c.in-Ok.ensures.put

pub returns-in-Err-clause-read : goal.returns-in-Err-clause-read
returns-in-Err-clause-read g c =
    read_more g.D.Disk c.args.nodes c.args.rack.now c.loop-done.rack c.disk.result.now c.put_files.new.disk c.loop-done.done c.loop-done.files c.loop-done.invariant c.disk.ensures.value
    c.put_files.result disk_fault.Stopped c.put_files.ensures.counts c.loop-done-test.true c.put_files.ensures.same

pub returns-in-Err-clause-stopped : goal.returns-in-Err-clause-stopped
returns-in-Err-clause-stopped g c stopped =
    let same : c.in-Err.fault ≡ disk_fault.Stopped = cc stopped in
    risen g.D.Disk c.args.nodes c.args.rack.now c.loop-done.rack c.disk.result.now c.put_files.new.disk c.loop-done.done c.loop-done.files c.loop-done.invariant c.disk.ensures.value
    c.put_files.result disk_fault.Stopped c.put_files.ensures.counts c.loop-done-test.true (c.in-Err.is ∙ ap Err same)
