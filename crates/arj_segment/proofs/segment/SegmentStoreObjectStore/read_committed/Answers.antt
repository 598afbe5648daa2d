use Rattle.std.proofs.Common.{◌≡◌, ◌∙◌, sym, ap, Some, None}
use Rattle.std.specs.Prelude.{option_copied}
use Rattle.arj_store.specs.Pair.{Packs}
use Rattle.arj_store.specs.Table.{at}
use Rattle.arj_segment.specs.Says.{held, pair_of, pend}
use Rattle.arj_segment.specs.Stays.{files_sound}
use Rattle.arj_segment.proofs.Commits.{holder_is, no_holder}
use Rattle.arj_segment.proofs.Refused.{read_none, read_some}
use Rattle.arj_segment.proofs.segment.SegmentStoreObjectStore.read_committed.Goals as goal

pub read_held-requires : goal.read_held-requires
read_held-requires g c = c.requires.keeps.committed.places_are c.args.uid

pub returns-in-Some-clause-answer : goal.returns-in-Some-clause-answer
returns-in-Some-clause-answer g c =
    holder_is (pend (g.D.Disk.file c.args.disk.now) c.args.self.now.role) (at c.args.self.now.kept.actions) (at c.args.self.now.kept.holdings) c.requires.keeps.pending c.args.uid c.in-Some.holder.now (sym c.get.ensures ∙ ap option_copied c.in-Some.is)

pub returns-in-Some-2-clause-answer : goal.returns-in-Some-2-clause-answer
returns-in-Some-2-clause-answer g c =
    let none : at c.args.self.now.kept.holdings c.args.uid ≡ None = sym c.get.ensures ∙ ap option_copied c.in_default.is in
    let packs : Packs (held (g.D.Disk.file c.args.disk.now) c.args.self.now.role c.args.uid) (Some c.in-Some-2.state) =
    rw c.in-Some-2.is at c.in_ok-state.ensures.state in
    (no_holder (pend (g.D.Disk.file c.args.disk.now) c.args.self.now.role) (at c.args.self.now.kept.actions) (at c.args.self.now.kept.holdings) c.requires.keeps.pending c.args.uid none, read_some c.args.self.now.role (pair_of (g.D.Disk.file c.args.disk.now) c.args.self.now.role) (files_sound c.args.self.now.role (g.D.Disk.file c.args.disk.now) c.requires.formed) c.args.uid c.in-Some-2.state packs)

pub returns-in-None-clause-answer : goal.returns-in-None-clause-answer
returns-in-None-clause-answer g c =
    let none : at c.args.self.now.kept.holdings c.args.uid ≡ None = sym c.get.ensures ∙ ap option_copied c.in_default.is in
    let packs : Packs (held (g.D.Disk.file c.args.disk.now) c.args.self.now.role c.args.uid) None =
    rw c.in-None.is at c.in_ok-state.ensures.state in
    (no_holder (pend (g.D.Disk.file c.args.disk.now) c.args.self.now.role) (at c.args.self.now.kept.actions) (at c.args.self.now.kept.holdings) c.requires.keeps.pending c.args.uid none, read_none c.args.self.now.role (pair_of (g.D.Disk.file c.args.disk.now) c.args.self.now.role) (files_sound c.args.self.now.role (g.D.Disk.file c.args.disk.now) c.requires.formed) c.args.uid packs)
