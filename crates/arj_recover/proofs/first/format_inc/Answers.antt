use Rattle.arj_recover.proofs.Disks.{only_own, roles_own}
use Rattle.arj_recover.proofs.Raised.{first_formed, first_said}
use Rattle.arj_recover.proofs.first.format_inc.Goals as goal

pub returns-clause-formed : goal.returns-clause-formed
returns-clause-formed g c =
    first_formed g.O.ObjectStore g.met.O.ObjectStore.stays (g.D.Disk.file c.args.disk.now) (g.D.Disk.file c.put_inc.new.disk) c.requires.store c.requires.names c.requires.intents c.in_ok-put_inc.ensures.ok

pub returns-clause-first : goal.returns-clause-first
returns-clause-first g c =
    first_said g.O.ObjectStore g.met.O.ObjectStore.stays (g.D.Disk.file c.args.disk.now) (g.D.Disk.file c.put_inc.new.disk) c.requires.store c.requires.names c.requires.intents c.in_ok-put_inc.ensures.ok

pub returns-clause-roles : goal.returns-clause-roles
returns-clause-roles g c =
    roles_own (g.D.Disk.file c.args.disk.now) (g.D.Disk.file c.put_inc.new.disk) (only_own (g.D.Disk.file c.args.disk.now) (g.D.Disk.file c.put_inc.new.disk) c.in_ok-put_inc.ensures.ok.others)
