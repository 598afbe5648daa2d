use Rattle.std.proofs.Common.{◌∙◌, ap, subst, inr, Some}
use Rattle.arj_disk.specs.Disk.{PutsOrNot}
use Rattle.arj_disk.specs.declared.slot.Slot.TheVariants.{Prepared}
use Rattle.arj_store.proofs.Puts.{puts_all, puts_some_or_all}
use Rattle.arj_store.proofs.prepare.put_prepared.Goals as goal

pub returns-in_err-put-clause-files : goal.returns-in_err-put-clause-files
returns-in_err-put-clause-files g c =
    puts_some_or_all c.args.role c.args.act c.args.states.now c.args.objects.now c.in_ok-file.file (g.D.Disk.file c.args.disk.now) (g.D.Disk.file c.put_states.new.disk) (g.D.Disk.file c.put.new.disk)
    c.requires.objects c.in_ok-file.ensures.bytes c.in_ok-file.ensures.form c.in_ok-file.ensures.fit c.in_ok-put_states.ensures.files c.in_ok-put_states.ensures.ok
    (subst (PutsOrNot (g.D.Disk.file c.put_states.new.disk) (g.D.Disk.file c.put.new.disk) (Prepared c.args.role c.args.act)) c.as_slice.ensures c.put.ensures.files)

pub returns-clause-ok : goal.returns-clause-ok
returns-clause-ok g c =
    puts_all c.args.role c.args.act c.args.states.now c.args.objects.now c.in_ok-file.file (g.D.Disk.file c.args.disk.now) (g.D.Disk.file c.put_states.new.disk) (g.D.Disk.file c.put.new.disk)
    c.requires.objects c.in_ok-file.ensures.bytes c.in_ok-file.ensures.form c.in_ok-file.ensures.fit c.in_ok-put_states.ensures.files c.in_ok-put_states.ensures.ok
    (subst (PutsOrNot (g.D.Disk.file c.put_states.new.disk) (g.D.Disk.file c.put.new.disk) (Prepared c.args.role c.args.act)) c.as_slice.ensures c.put.ensures.files)
    (c.in_ok-put.ensures.ok.here ∙ ap Some c.as_slice.ensures)

pub returns-clause-files : goal.returns-clause-files
returns-clause-files g c = inr (returns-clause-ok g c)
