use Rattle.std.proofs.Common.{◌≤◌, ◌∙◌, ◌++◌, ap, length, subst, sym}
use Rattle.std.proofs.lemmas.List.{take_all}
use Rattle.arj_disk.specs.Counted.{counts}
use Rattle.arj_disk.specs.Disk.{Lists}
use Rattle.arj_disk.specs.declared.disk.DiskFault.TheVariants as disk_fault
use Rattle.arj_disk.specs.declared.slot.Slot.TheVariants as slot
use Rattle.arj_saving.proofs.Gathers.{counts_stay, first_going, next_going}
use Rattle.arj_saving.specs.Gathered.{files_at}
use Rattle.arj_saving.proofs.gathering.put_files.Goals as goal

pub loop-name-init : goal.loop-name-init
loop-name-init g c =
    first_going g.D.Disk c.args.node c.args.disk.now c.names.new.self c.args.files.now c.as_slice-name-items.result.now
    c.in_ok-names.ensures.files
    (counts_stay (counts g.D.Disk c.args.disk.now) (counts g.D.Disk c.names.new.self) c.in_ok-names.names disk_fault.Stopped c.in_ok-names.ensures.counts)
    (subst (Lists (g.D.Disk.file c.args.disk.now)) (sym c.as_slice-name-items.ensures) c.in_ok-names.ensures.names)

pub loop-name-preserved : goal.loop-name-preserved
loop-name-preserved g c =
    next_going g.D.Disk c.args.node c.args.disk.now c.loop-name.disk c.put_file.new.disk c.args.files.now c.loop-name.files c.put_file.new.files
    c.as_slice-name-items.result.now c.loop-name.name-index slot.Incarnation c.loop-name-test.true c.loop-name.invariant c.in_ok-put_file.ensures.put c.in_ok-put_file.ensures.same
    (counts_stay (counts g.D.Disk c.loop-name.disk) (counts g.D.Disk c.put_file.new.disk) tt disk_fault.Stopped c.in_ok-put_file.ensures.counts)

pub returns-clause-put : goal.returns-clause-put
returns-clause-put g c =
    let going = c.loop-name.invariant in
    let names = c.as_slice-name-items.result.now in
    let ends : length names ≤ c.loop-name.name-index = c.loop-name-test.false in
    (names, going.names_are, going.files ∙ ap (λ ns. c.args.files.now ++ files_at c.args.node (g.D.Disk.file c.args.disk.now) ns) (take_all c.loop-name.name-index names ends))
