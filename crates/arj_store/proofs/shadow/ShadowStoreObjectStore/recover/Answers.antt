use Rattle.std.proofs.Common.{subst, sym}
use Rattle.arj_disk.specs.Disk.{Lists}
use Rattle.arj_store.specs.Formed.{FormedFor}
use Rattle.arj_store.specs.OfFiles.{SamePair}
use Rattle.arj_store.proofs.Ends.{same_files}
use Rattle.arj_store.proofs.Finding.{lists_held}
use Rattle.arj_store.proofs.shadow.ShadowStoreObjectStore.recover.Goals as goal

pub returns-in_err-names-clause-formed : goal.returns-in_err-names-clause-formed
returns-in_err-names-clause-formed g c =
    subst (λ file. FormedFor file c.args.role) (same_files (g.D.Disk.file c.args.disk.now) (g.D.Disk.file c.names.new.self) c.names.ensures.files) c.requires

pub recover_pending-requires-clause-formed : goal.recover_pending-requires-clause-formed
recover_pending-requires-clause-formed g c =
    subst (λ file. FormedFor file c.args.role) (same_files (g.D.Disk.file c.args.disk.now) (g.D.Disk.file c.names.new.self) c.names.ensures.files) c.requires

pub returns-in_err-pending-clause-pair : goal.returns-in_err-pending-clause-pair
returns-in_err-pending-clause-pair g c =
    subst (λ file. SamePair c.args.role file (g.D.Disk.file c.recover_pending.new.disk)) (sym (same_files (g.D.Disk.file c.args.disk.now) (g.D.Disk.file c.names.new.self) c.names.ensures.files)) c.recover_pending.ensures.pair

pub find-requires-clause-lists : goal.find-requires-clause-lists
find-requires-clause-lists g c =
    lists_held c.args.role (g.D.Disk.file c.args.disk.now) (g.D.Disk.file c.recover_pending.new.disk) c.as_slice-2.result.now (subst (Lists (g.D.Disk.file c.args.disk.now)) (sym c.as_slice-2.ensures) c.in_ok-names.ensures.names)
    (subst (λ file. SamePair c.args.role file (g.D.Disk.file c.recover_pending.new.disk)) (sym (same_files (g.D.Disk.file c.args.disk.now) (g.D.Disk.file c.names.new.self) c.names.ensures.files)) c.recover_pending.ensures.pair)

pub returns-in_err-found-clause-pair : goal.returns-in_err-found-clause-pair
returns-in_err-found-clause-pair g c =
    subst (λ file. SamePair c.args.role (g.D.Disk.file c.args.disk.now) file) (sym c.find.ensures.files) (subst (λ file. SamePair c.args.role file (g.D.Disk.file c.recover_pending.new.disk)) (sym (same_files (g.D.Disk.file c.args.disk.now) (g.D.Disk.file c.names.new.self) c.names.ensures.files)) c.recover_pending.ensures.pair)

pub returns-clause-pair : goal.returns-clause-pair
returns-clause-pair g c =
    subst (λ file. SamePair c.args.role (g.D.Disk.file c.args.disk.now) file) (sym c.find.ensures.files) (subst (λ file. SamePair c.args.role file (g.D.Disk.file c.recover_pending.new.disk)) (sym (same_files (g.D.Disk.file c.args.disk.now) (g.D.Disk.file c.names.new.self) c.names.ensures.files)) c.recover_pending.ensures.pair)
