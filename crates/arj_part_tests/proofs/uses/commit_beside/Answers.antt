use Rattle.std.proofs.Common.{sym, subst}
use Rattle.arj_disk.specs.declared.slot.Role.TheVariants.{Store, Names}
use Rattle.arj_disk.specs.Says.{OnlyOfRole, SameOfRole}
use Rattle.arj_part_tests.proofs.uses.commit_beside.Goals as goal

pub returns-clause-keeps : goal.returns-clause-keeps
returns-clause-keeps g c =
    let only : OnlyOfRole Names (g.D.Disk.file c.args.disk.now) (g.D.Disk.file c.commit.new.disk) =
    subst (λ r. OnlyOfRole r (g.D.Disk.file c.args.disk.now) (g.D.Disk.file c.commit.new.disk)) c.requires.other c.commit.ensures.others in
    let same = c.roles_apart.ensures Names Store (g.D.Disk.file c.args.disk.now) (g.D.Disk.file c.commit.new.disk) (λ e. cc) only in
    g.met.S.ObjectStore.keeps_on c.args.objects.now (g.D.Disk.file c.args.disk.now) (g.D.Disk.file c.commit.new.disk)
    (subst (λ r. SameOfRole r (g.D.Disk.file c.args.disk.now) (g.D.Disk.file c.commit.new.disk)) (sym c.requires.own) same) c.requires.keeps.0

pub returns-clause-formed : goal.returns-clause-formed
returns-clause-formed g c =
    let only : OnlyOfRole Names (g.D.Disk.file c.args.disk.now) (g.D.Disk.file c.commit.new.disk) =
    subst (λ r. OnlyOfRole r (g.D.Disk.file c.args.disk.now) (g.D.Disk.file c.commit.new.disk)) c.requires.other c.commit.ensures.others in
    let same = c.roles_apart.ensures Names Store (g.D.Disk.file c.args.disk.now) (g.D.Disk.file c.commit.new.disk) (λ e. cc) only in
    (g.met.S.ObjectStore.stays Store (g.D.Disk.file c.args.disk.now) (g.D.Disk.file c.commit.new.disk) same c.requires.formed.0).0

pub returns-clause-pair : goal.returns-clause-pair
returns-clause-pair g c =
    let only : OnlyOfRole Names (g.D.Disk.file c.args.disk.now) (g.D.Disk.file c.commit.new.disk) =
    subst (λ r. OnlyOfRole r (g.D.Disk.file c.args.disk.now) (g.D.Disk.file c.commit.new.disk)) c.requires.other c.commit.ensures.others in
    let same = c.roles_apart.ensures Names Store (g.D.Disk.file c.args.disk.now) (g.D.Disk.file c.commit.new.disk) (λ e. cc) only in
    (g.met.S.ObjectStore.stays Store (g.D.Disk.file c.args.disk.now) (g.D.Disk.file c.commit.new.disk) same c.requires.formed.0).1
