use Rattle.std.proofs.Common.{◌∙◌, sym, subst}
use Rattle.arj_segment.specs.Formed.{IsFormed}
use Rattle.arj_segment.proofs.Changes.{same_files}
use Rattle.arj_segment.proofs.segment.SegmentStoreObjectStore.recover.Goals as goal

pub returns-in_err-names-clause-formed : goal.returns-in_err-names-clause-formed
returns-in_err-names-clause-formed g c =
    subst (λ file. IsFormed file c.args.role) (sym (same_files (g.D.Disk.file c.args.disk.now) (g.D.Disk.file c.names.new.self) c.names.ensures.files)) c.requires

pub recover_files-requires-clause-formed : goal.recover_files-requires-clause-formed
recover_files-requires-clause-formed g c =
    subst (λ file. IsFormed file c.args.role) (sym (same_files (g.D.Disk.file c.args.disk.now) (g.D.Disk.file c.names.new.self) c.names.ensures.files)) c.requires

pub returns-in_err-kept-clause-formed : goal.returns-in_err-kept-clause-formed
returns-in_err-kept-clause-formed g c =
    subst (λ file. IsFormed file c.args.role) (sym (c.recover_files.ensures.files ∙ same_files (g.D.Disk.file c.args.disk.now) (g.D.Disk.file c.names.new.self) c.names.ensures.files)) c.requires

pub returns-clause-formed : goal.returns-clause-formed
returns-clause-formed g c =
    subst (λ file. IsFormed file c.args.role) (sym (c.recover_files.ensures.files ∙ same_files (g.D.Disk.file c.args.disk.now) (g.D.Disk.file c.names.new.self) c.names.ensures.files)) c.requires
