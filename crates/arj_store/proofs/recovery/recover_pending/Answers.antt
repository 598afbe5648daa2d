use Rattle.std.proofs.Common.{subst}
use Rattle.arj_store.specs.Recovery.{DropsShadows, SortsShadows}
use Rattle.arj_store.specs.Table.{at}
use Rattle.arj_store.proofs.Recovering.{recovered_pair, recovered_formed, recovered_keeps}
use Rattle.arj_store.proofs.recovery.recover_pending.Goals as goal

pub returns-in_err-sort_shadows-clause-pair : goal.returns-in_err-sort_shadows-clause-pair
returns-in_err-sort_shadows-clause-pair g c =
    recovered_pair c.args.role c.args.names.now (g.D.Disk.file c.args.disk.now) (g.D.Disk.file c.sort_shadows.new.disk) c.requires.formed c.requires.lists (at c.in_ok-pending.pending.actions) (at c.in_ok-pending.pending.holdings) (at c.sort_shadows.new.holdings) c.in_ok-pending.ensures.read (subst (λ file. DropsShadows c.args.role (at c.in_ok-pending.pending.holdings) file (g.D.Disk.file c.sort_shadows.new.disk)) c.read_actions.ensures.files c.sort_shadows.ensures.files)

pub returns-in_err-sort_shadows-clause-formed : goal.returns-in_err-sort_shadows-clause-formed
returns-in_err-sort_shadows-clause-formed g c =
    recovered_formed c.args.role c.args.names.now (g.D.Disk.file c.args.disk.now) (g.D.Disk.file c.sort_shadows.new.disk) c.requires.formed c.requires.lists (at c.in_ok-pending.pending.actions) (at c.in_ok-pending.pending.holdings) (at c.sort_shadows.new.holdings) c.in_ok-pending.ensures.read (subst (λ file. DropsShadows c.args.role (at c.in_ok-pending.pending.holdings) file (g.D.Disk.file c.sort_shadows.new.disk)) c.read_actions.ensures.files c.sort_shadows.ensures.files)

pub returns-clause-keeps : goal.returns-clause-keeps
returns-clause-keeps g c =
    recovered_keeps c.args.role c.args.names.now (g.D.Disk.file c.args.disk.now) (g.D.Disk.file c.sort_shadows.new.disk) c.requires.formed c.requires.lists (at c.in_ok-pending.pending.actions) (at c.in_ok-pending.pending.holdings) (at c.sort_shadows.new.holdings) c.in_ok-pending.ensures.read (subst (λ file. SortsShadows c.args.names.now c.args.role file (at c.in_ok-pending.pending.holdings) (g.D.Disk.file c.sort_shadows.new.disk) (at c.sort_shadows.new.holdings)) c.read_actions.ensures.files c.in_ok-sort_shadows.ensures.ok)

pub returns-clause-pair : goal.returns-clause-pair
returns-clause-pair g c =
    recovered_pair c.args.role c.args.names.now (g.D.Disk.file c.args.disk.now) (g.D.Disk.file c.sort_shadows.new.disk) c.requires.formed c.requires.lists (at c.in_ok-pending.pending.actions) (at c.in_ok-pending.pending.holdings) (at c.sort_shadows.new.holdings) c.in_ok-pending.ensures.read (subst (λ file. DropsShadows c.args.role (at c.in_ok-pending.pending.holdings) file (g.D.Disk.file c.sort_shadows.new.disk)) c.read_actions.ensures.files c.sort_shadows.ensures.files)

pub returns-clause-formed : goal.returns-clause-formed
returns-clause-formed g c =
    recovered_formed c.args.role c.args.names.now (g.D.Disk.file c.args.disk.now) (g.D.Disk.file c.sort_shadows.new.disk) c.requires.formed c.requires.lists (at c.in_ok-pending.pending.actions) (at c.in_ok-pending.pending.holdings) (at c.sort_shadows.new.holdings) c.in_ok-pending.ensures.read (subst (λ file. DropsShadows c.args.role (at c.in_ok-pending.pending.holdings) file (g.D.Disk.file c.sort_shadows.new.disk)) c.read_actions.ensures.files c.sort_shadows.ensures.files)
