use Rattle.arj_recover.proofs.Disks.{formed_role, formed_tmp, says_role, says_tmp}
use Rattle.arj_recover.proofs.beginning.own_store.Goals as goal

pub returns-in_err-remove-clause-same : goal.returns-in_err-remove-clause-same
returns-in_err-remove-clause-same g c =
    says_tmp g.O.ObjectStore g.met.O.ObjectStore.stays (g.D.Disk.file c.args.disk.now) (g.D.Disk.file c.remove.new.self) c.requires.formed c.remove.ensures.files

pub returns-in_err-remove-clause-formed : goal.returns-in_err-remove-clause-formed
returns-in_err-remove-clause-formed g c =
    formed_tmp g.O.ObjectStore g.met.O.ObjectStore.stays (g.D.Disk.file c.args.disk.now) (g.D.Disk.file c.remove.new.self) c.requires.formed c.remove.ensures.files

pub recover-requires : goal.recover-requires
recover-requires g c =
    (formed_tmp g.O.ObjectStore g.met.O.ObjectStore.stays (g.D.Disk.file c.args.disk.now) (g.D.Disk.file c.remove.new.self) c.requires.formed c.remove.ensures.files).store

pub returns-clause-same : goal.returns-clause-same
returns-clause-same g c =
    λ d are. says_role g.O.ObjectStore g.met.O.ObjectStore.stays (g.D.Disk.file c.remove.new.self) (g.D.Disk.file c.recover.new.disk)
    (formed_tmp g.O.ObjectStore g.met.O.ObjectStore.stays (g.D.Disk.file c.args.disk.now) (g.D.Disk.file c.remove.new.self) c.requires.formed c.remove.ensures.files) c.recover.ensures.others c.recover.ensures.pair d
    (says_tmp g.O.ObjectStore g.met.O.ObjectStore.stays (g.D.Disk.file c.args.disk.now) (g.D.Disk.file c.remove.new.self) c.requires.formed c.remove.ensures.files d are)

pub returns-clause-formed : goal.returns-clause-formed
returns-clause-formed g c =
    formed_role g.O.ObjectStore g.met.O.ObjectStore.stays (g.D.Disk.file c.remove.new.self) (g.D.Disk.file c.recover.new.disk)
    (formed_tmp g.O.ObjectStore g.met.O.ObjectStore.stays (g.D.Disk.file c.args.disk.now) (g.D.Disk.file c.remove.new.self) c.requires.formed c.remove.ensures.files) c.recover.ensures.others c.recover.ensures.formed
