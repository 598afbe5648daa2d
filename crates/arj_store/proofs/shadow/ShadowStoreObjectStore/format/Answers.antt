use Rattle.std.proofs.Common.{subst, map}
use Rattle.arj_store.specs.declared.prepare.Place.TheVariants as place
use Rattle.arj_store.specs.Pair.{uid_of}
use Rattle.arj_store.specs.Shadow.{PutsFirst, PutsStates, HasStates}
use Rattle.arj_store.specs.Table.{at}
use Rattle.arj_store.proofs.Ends.{on_err}
use Rattle.arj_store.proofs.Formatted.{format_first, format_others, format_pair, format_keeps, format_formed}
use Rattle.arj_store.proofs.shadow.ShadowStoreObjectStore.format.Goals as goal

pub returns-in_err-put_states-clause-others : goal.returns-in_err-put_states-clause-others
returns-in_err-put_states-clause-others g c =
    format_others c.args.role c.args.states.now (g.D.Disk.file c.args.disk.now) (g.D.Disk.file c.put_states.new.disk) c.requires.empty c.requires.states.own (subst (λ ss. PutsStates place.Committed (map uid_of ss) (g.D.Disk.file c.args.disk.now) (g.D.Disk.file c.put_states.new.disk)) c.as_slice.ensures c.put_states.ensures.files)

pub returns-in_err-put_states-clause-formed : goal.returns-in_err-put_states-clause-formed
returns-in_err-put_states-clause-formed g c =
    format_formed c.args.role c.args.states.now (g.D.Disk.file c.args.disk.now) (g.D.Disk.file c.put_states.new.disk) c.requires.empty c.requires.states.own (subst (λ ss. PutsStates place.Committed (map uid_of ss) (g.D.Disk.file c.args.disk.now) (g.D.Disk.file c.put_states.new.disk)) c.as_slice.ensures c.put_states.ensures.files) c.requires.count

pub returns-in_err-put_states-clause-fault : goal.returns-in_err-put_states-clause-fault
returns-in_err-put_states-clause-fault g c =
    on_err c.from_residual.result (format_first c.args.role c.args.states.now (g.D.Disk.file c.args.disk.now) (g.D.Disk.file c.put_states.new.disk) c.requires.empty c.requires.states.own (subst (λ ss. PutsFirst place.Committed ss (g.D.Disk.file c.args.disk.now) (g.D.Disk.file c.put_states.new.disk)) c.as_slice.ensures c.in_err-put_states.ensures.fault))

pub returns-clause-pair : goal.returns-clause-pair
returns-clause-pair g c =
    format_pair c.args.role c.args.states.now (g.D.Disk.file c.args.disk.now) (g.D.Disk.file c.put_states.new.disk) c.requires.empty c.requires.states.own (subst (λ ss. PutsStates place.Committed (map uid_of ss) (g.D.Disk.file c.args.disk.now) (g.D.Disk.file c.put_states.new.disk)) c.as_slice.ensures c.put_states.ensures.files) (subst (λ ss. HasStates place.Committed ss (g.D.Disk.file c.put_states.new.disk)) c.as_slice.ensures c.in_ok-put_states.ensures.ok)

pub returns-clause-keeps : goal.returns-clause-keeps
returns-clause-keeps g c =
    format_keeps c.args.role c.args.states.now (g.D.Disk.file c.args.disk.now) (g.D.Disk.file c.put_states.new.disk) c.requires.empty c.requires.states.own (subst (λ ss. PutsStates place.Committed (map uid_of ss) (g.D.Disk.file c.args.disk.now) (g.D.Disk.file c.put_states.new.disk)) c.as_slice.ensures c.put_states.ensures.files) (at c.new.result.actions) (at c.new.result.holdings) c.new.ensures.actions c.new.ensures.holdings

pub returns-clause-formed : goal.returns-clause-formed
returns-clause-formed g c =
    format_formed c.args.role c.args.states.now (g.D.Disk.file c.args.disk.now) (g.D.Disk.file c.put_states.new.disk) c.requires.empty c.requires.states.own (subst (λ ss. PutsStates place.Committed (map uid_of ss) (g.D.Disk.file c.args.disk.now) (g.D.Disk.file c.put_states.new.disk)) c.as_slice.ensures c.put_states.ensures.files) c.requires.count

pub returns-clause-others : goal.returns-clause-others
returns-clause-others g c =
    format_others c.args.role c.args.states.now (g.D.Disk.file c.args.disk.now) (g.D.Disk.file c.put_states.new.disk) c.requires.empty c.requires.states.own (subst (λ ss. PutsStates place.Committed (map uid_of ss) (g.D.Disk.file c.args.disk.now) (g.D.Disk.file c.put_states.new.disk)) c.as_slice.ensures c.put_states.ensures.files)
