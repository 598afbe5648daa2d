use Rattle.std.proofs.Common.{◌∙◌, ◌<◌, inr, refl, sym, subst, None, Some}
use Rattle.std.specs.List.{AllByRecursion}
use Rattle.arj_store.proofs.Ends.{on_err}
use Rattle.arj_store.specs.Table.{at}
use Rattle.arj_segment.specs.Says.{segments}
use Rattle.arj_segment.specs.Tables.{IsBare, KeepsPlaces, SetsEach}
use Rattle.arj_segment.proofs.Changes.{abort_drops, commit_moves}
use Rattle.arj_segment.proofs.Ended.{HasPending, abort_end, abort_pend, abort_places, an_action, bare_fault, bare_moves, commit_end, commit_fault}
use Rattle.arj_segment.proofs.Ended.{commit_pend, commit_places}
use Rattle.arj_segment.proofs.moving.commit_file.Goals as goal

pub returns-in_err-rename-clause-fault : goal.returns-in_err-rename-clause-fault
returns-in_err-rename-clause-fault g c =
    let has : HasPending (g.D.Disk.file c.args.disk.now) c.args.role c.args.act c.in-Some.objects =
    an_action (g.D.Disk.file c.args.disk.now) c.args.role (at c.args.kept.now.actions) (at c.args.kept.now.holdings) c.requires.keeps.pending c.args.act c.in-Some.objects (sym c.take.ensures.value ∙ c.in-Some.is) in
    on_err c.from_residual-in_err-rename.result (commit_fault c.args.role c.args.act c.in-Some.objects (g.D.Disk.file c.args.disk.now) c.requires.formed has (at c.args.kept.now.actions) (at c.take.new.self) (at c.args.kept.now.holdings) (at c.args.kept.now.holdings) c.requires.keeps.pending (g.D.Disk.file c.rename.new.self) c.args.kept.now.numbers c.in_ok-number.number c.in_ok-number.ensures.below c.requires.keeps.committed.numbers_are (subst (AllByRecursion (λ j. j < c.in_ok-number.number)) c.as_slice.ensures c.in_ok-number.ensures.above) c.rename.ensures.files)

pub returns-in_err-rename-clause-formed : goal.returns-in_err-rename-clause-formed
returns-in_err-rename-clause-formed g c =
    let has : HasPending (g.D.Disk.file c.args.disk.now) c.args.role c.args.act c.in-Some.objects =
    an_action (g.D.Disk.file c.args.disk.now) c.args.role (at c.args.kept.now.actions) (at c.args.kept.now.holdings) c.requires.keeps.pending c.args.act c.in-Some.objects (sym c.take.ensures.value ∙ c.in-Some.is) in
    let full : IsBare c.in-Some.objects c.args.kept.now.numbers → ⊥ = c.if-is_bare.ensures in
    commit_end c.args.role c.args.act c.in-Some.objects (g.D.Disk.file c.args.disk.now) c.requires.formed has (at c.args.kept.now.actions) (at c.take.new.self) (at c.args.kept.now.holdings) (at c.args.kept.now.holdings) c.requires.keeps.pending (g.D.Disk.file c.rename.new.self) c.args.kept.now.numbers c.in_ok-number.number c.in_ok-number.ensures.below c.requires.keeps.committed.numbers_are (subst (AllByRecursion (λ j. j < c.in_ok-number.number)) c.as_slice.ensures c.in_ok-number.ensures.above) c.in_ok-number.ensures.low full c.rename.ensures.files

pub returns-in_err-set_each-clause-fault : goal.returns-in_err-set_each-clause-fault
returns-in_err-set_each-clause-fault g c =
    let has : HasPending (g.D.Disk.file c.args.disk.now) c.args.role c.args.act c.in-Some.objects =
    an_action (g.D.Disk.file c.args.disk.now) c.args.role (at c.args.kept.now.actions) (at c.args.kept.now.holdings) c.requires.keeps.pending c.args.act c.in-Some.objects (sym c.take.ensures.value ∙ c.in-Some.is) in
    on_err c.from_residual-in_err-set_each.result (commit_fault c.args.role c.args.act c.in-Some.objects (g.D.Disk.file c.args.disk.now) c.requires.formed has (at c.args.kept.now.actions) (at c.take.new.self) (at c.args.kept.now.holdings) (at c.args.kept.now.holdings) c.requires.keeps.pending (g.D.Disk.file c.rename.new.self) c.args.kept.now.numbers c.in_ok-number.number c.in_ok-number.ensures.below c.requires.keeps.committed.numbers_are (subst (AllByRecursion (λ j. j < c.in_ok-number.number)) c.as_slice.ensures c.in_ok-number.ensures.above) c.rename.ensures.files)

pub returns-in_err-set_each-clause-formed : goal.returns-in_err-set_each-clause-formed
returns-in_err-set_each-clause-formed g c =
    let has : HasPending (g.D.Disk.file c.args.disk.now) c.args.role c.args.act c.in-Some.objects =
    an_action (g.D.Disk.file c.args.disk.now) c.args.role (at c.args.kept.now.actions) (at c.args.kept.now.holdings) c.requires.keeps.pending c.args.act c.in-Some.objects (sym c.take.ensures.value ∙ c.in-Some.is) in
    let full : IsBare c.in-Some.objects c.args.kept.now.numbers → ⊥ = c.if-is_bare.ensures in
    commit_end c.args.role c.args.act c.in-Some.objects (g.D.Disk.file c.args.disk.now) c.requires.formed has (at c.args.kept.now.actions) (at c.take.new.self) (at c.args.kept.now.holdings) (at c.args.kept.now.holdings) c.requires.keeps.pending (g.D.Disk.file c.rename.new.self) c.args.kept.now.numbers c.in_ok-number.number c.in_ok-number.ensures.below c.requires.keeps.committed.numbers_are (subst (AllByRecursion (λ j. j < c.in_ok-number.number)) c.as_slice.ensures c.in_ok-number.ensures.above) c.in_ok-number.ensures.low full c.rename.ensures.files

pub returns-in_err-push-clause-fault : goal.returns-in_err-push-clause-fault
returns-in_err-push-clause-fault g c =
    let has : HasPending (g.D.Disk.file c.args.disk.now) c.args.role c.args.act c.in-Some.objects =
    an_action (g.D.Disk.file c.args.disk.now) c.args.role (at c.args.kept.now.actions) (at c.args.kept.now.holdings) c.requires.keeps.pending c.args.act c.in-Some.objects (sym c.take.ensures.value ∙ c.in-Some.is) in
    on_err c.from_residual-in_err-push.result (commit_fault c.args.role c.args.act c.in-Some.objects (g.D.Disk.file c.args.disk.now) c.requires.formed has (at c.args.kept.now.actions) (at c.take.new.self) (at c.args.kept.now.holdings) (at c.args.kept.now.holdings) c.requires.keeps.pending (g.D.Disk.file c.rename.new.self) c.args.kept.now.numbers c.in_ok-number.number c.in_ok-number.ensures.below c.requires.keeps.committed.numbers_are (subst (AllByRecursion (λ j. j < c.in_ok-number.number)) c.as_slice.ensures c.in_ok-number.ensures.above) c.rename.ensures.files)

pub returns-in_err-push-clause-formed : goal.returns-in_err-push-clause-formed
returns-in_err-push-clause-formed g c =
    let has : HasPending (g.D.Disk.file c.args.disk.now) c.args.role c.args.act c.in-Some.objects =
    an_action (g.D.Disk.file c.args.disk.now) c.args.role (at c.args.kept.now.actions) (at c.args.kept.now.holdings) c.requires.keeps.pending c.args.act c.in-Some.objects (sym c.take.ensures.value ∙ c.in-Some.is) in
    let full : IsBare c.in-Some.objects c.args.kept.now.numbers → ⊥ = c.if-is_bare.ensures in
    commit_end c.args.role c.args.act c.in-Some.objects (g.D.Disk.file c.args.disk.now) c.requires.formed has (at c.args.kept.now.actions) (at c.take.new.self) (at c.args.kept.now.holdings) (at c.args.kept.now.holdings) c.requires.keeps.pending (g.D.Disk.file c.rename.new.self) c.args.kept.now.numbers c.in_ok-number.number c.in_ok-number.ensures.below c.requires.keeps.committed.numbers_are (subst (AllByRecursion (λ j. j < c.in_ok-number.number)) c.as_slice.ensures c.in_ok-number.ensures.above) c.in_ok-number.ensures.low full c.rename.ensures.files

pub returns-clause-moved : goal.returns-clause-moved
returns-clause-moved g c =
    commit_moves c.args.role c.args.act (g.D.Disk.file c.args.disk.now) (g.D.Disk.file c.rename.new.self) c.requires.formed c.args.kept.now.numbers c.in_ok-number.number c.in_ok-number.ensures.below c.requires.keeps.committed.numbers_are
    (subst (AllByRecursion (λ j. j < c.in_ok-number.number)) c.as_slice.ensures c.in_ok-number.ensures.above) c.in_ok-rename.ensures.ok

pub returns-clause-keeps : goal.returns-clause-keeps
returns-clause-keeps g c =
    let has : HasPending (g.D.Disk.file c.args.disk.now) c.args.role c.args.act c.in-Some.objects =
    an_action (g.D.Disk.file c.args.disk.now) c.args.role (at c.args.kept.now.actions) (at c.args.kept.now.holdings) c.requires.keeps.pending c.args.act c.in-Some.objects (sym c.take.ensures.value ∙ c.in-Some.is) in
    record {
      pending = commit_pend c.args.role c.args.act c.in-Some.objects (g.D.Disk.file c.args.disk.now) c.requires.formed has (at c.args.kept.now.actions) (at c.take.new.self) (at c.args.kept.now.holdings) (at c.take_each.new.table) c.requires.keeps.pending (g.D.Disk.file c.rename.new.self) c.args.kept.now.numbers c.in_ok-number.number c.in_ok-number.ensures.below c.requires.keeps.committed.numbers_are (subst (AllByRecursion (λ j. j < c.in_ok-number.number)) c.as_slice.ensures c.in_ok-number.ensures.above) c.in_ok-rename.ensures.ok c.take.ensures.taken (subst (λ us. SetsEach us None (at c.args.kept.now.holdings) (at c.take_each.new.table)) c.as_slice-2.ensures c.take_each.ensures);
      committed = subst (λ ks. KeepsPlaces (segments (g.D.Disk.file c.rename.new.self) c.args.role) (at c.set_each.new.table) ks) (sym c.in_ok-push.ensures.ok)
          (commit_places c.args.role c.args.act c.in-Some.objects (g.D.Disk.file c.args.disk.now) c.requires.formed has (at c.args.kept.now.actions) (at c.take.new.self) (at c.args.kept.now.holdings) (at c.take_each.new.table) c.requires.keeps.pending (g.D.Disk.file c.rename.new.self) c.args.kept.now.numbers c.in_ok-number.number c.in_ok-number.ensures.below c.requires.keeps.committed.numbers_are (subst (AllByRecursion (λ j. j < c.in_ok-number.number)) c.as_slice.ensures c.in_ok-number.ensures.above) c.in_ok-rename.ensures.ok (at c.args.kept.now.places) (at c.set_each.new.table) c.requires.keeps.committed.places_are
          (subst (λ us. SetsEach us (Some c.in_ok-number.number) (at c.args.kept.now.places) (at c.set_each.new.table)) c.as_slice-3.ensures c.in_ok-set_each.ensures));
    }

pub returns-clause-formed : goal.returns-clause-formed
returns-clause-formed g c =
    let has : HasPending (g.D.Disk.file c.args.disk.now) c.args.role c.args.act c.in-Some.objects =
    an_action (g.D.Disk.file c.args.disk.now) c.args.role (at c.args.kept.now.actions) (at c.args.kept.now.holdings) c.requires.keeps.pending c.args.act c.in-Some.objects (sym c.take.ensures.value ∙ c.in-Some.is) in
    let full : IsBare c.in-Some.objects c.args.kept.now.numbers → ⊥ = c.if-is_bare.ensures in
    commit_end c.args.role c.args.act c.in-Some.objects (g.D.Disk.file c.args.disk.now) c.requires.formed has (at c.args.kept.now.actions) (at c.take.new.self) (at c.args.kept.now.holdings) (at c.take_each.new.table) c.requires.keeps.pending (g.D.Disk.file c.rename.new.self) c.args.kept.now.numbers c.in_ok-number.number c.in_ok-number.ensures.below c.requires.keeps.committed.numbers_are (subst (AllByRecursion (λ j. j < c.in_ok-number.number)) c.as_slice.ensures c.in_ok-number.ensures.above) c.in_ok-number.ensures.low full (inr c.in_ok-rename.ensures.ok)

pub returns-in_err-remove-clause-fault : goal.returns-in_err-remove-clause-fault
returns-in_err-remove-clause-fault g c =
    let has : HasPending (g.D.Disk.file c.args.disk.now) c.args.role c.args.act c.in-Some.objects =
    an_action (g.D.Disk.file c.args.disk.now) c.args.role (at c.args.kept.now.actions) (at c.args.kept.now.holdings) c.requires.keeps.pending c.args.act c.in-Some.objects (sym c.take.ensures.value ∙ c.in-Some.is) in
    on_err _ (bare_fault c.args.role c.args.act c.in-Some.objects (g.D.Disk.file c.args.disk.now) c.requires.formed has (at c.args.kept.now.actions) (at c.take.new.self) (at c.args.kept.now.holdings) (at c.args.kept.now.holdings) c.requires.keeps.pending (g.D.Disk.file c.remove.new.self) c.if-is_bare.ensures.0 c.remove.ensures.files)

pub returns-in_err-remove-clause-formed : goal.returns-in_err-remove-clause-formed
returns-in_err-remove-clause-formed g c =
    let has : HasPending (g.D.Disk.file c.args.disk.now) c.args.role c.args.act c.in-Some.objects =
    an_action (g.D.Disk.file c.args.disk.now) c.args.role (at c.args.kept.now.actions) (at c.args.kept.now.holdings) c.requires.keeps.pending c.args.act c.in-Some.objects (sym c.take.ensures.value ∙ c.in-Some.is) in
    abort_end c.args.role c.args.act c.in-Some.objects (g.D.Disk.file c.args.disk.now) c.requires.formed has (at c.args.kept.now.actions) (at c.take.new.self) (at c.args.kept.now.holdings) (at c.args.kept.now.holdings) c.requires.keeps.pending (g.D.Disk.file c.remove.new.self) c.remove.ensures.files

pub returns-then-is_bare-clause-moved : goal.returns-then-is_bare-clause-moved
returns-then-is_bare-clause-moved g c =
    let has : HasPending (g.D.Disk.file c.args.disk.now) c.args.role c.args.act c.in-Some.objects =
    an_action (g.D.Disk.file c.args.disk.now) c.args.role (at c.args.kept.now.actions) (at c.args.kept.now.holdings) c.requires.keeps.pending c.args.act c.in-Some.objects (sym c.take.ensures.value ∙ c.in-Some.is) in
    bare_moves c.args.role c.args.act c.in-Some.objects (g.D.Disk.file c.args.disk.now) c.requires.formed has (at c.args.kept.now.actions) (at c.take.new.self) (at c.args.kept.now.holdings) (at c.args.kept.now.holdings) c.requires.keeps.pending (g.D.Disk.file c.remove.new.self) c.if-is_bare.ensures.0
    (abort_drops c.args.role c.args.act (g.D.Disk.file c.args.disk.now) (g.D.Disk.file c.remove.new.self) c.requires.formed c.in_ok-remove.ensures.ok)

pub returns-then-is_bare-clause-keeps : goal.returns-then-is_bare-clause-keeps
returns-then-is_bare-clause-keeps g c =
    let has : HasPending (g.D.Disk.file c.args.disk.now) c.args.role c.args.act c.in-Some.objects =
    an_action (g.D.Disk.file c.args.disk.now) c.args.role (at c.args.kept.now.actions) (at c.args.kept.now.holdings) c.requires.keeps.pending c.args.act c.in-Some.objects (sym c.take.ensures.value ∙ c.in-Some.is) in
    record {
      pending = abort_pend c.args.role c.args.act c.in-Some.objects (g.D.Disk.file c.args.disk.now) c.requires.formed has (at c.args.kept.now.actions) (at c.take.new.self) (at c.args.kept.now.holdings) (at c.args.kept.now.holdings) c.requires.keeps.pending (g.D.Disk.file c.remove.new.self) c.in_ok-remove.ensures.ok c.take.ensures.taken
          (subst (λ us. SetsEach us None (at c.args.kept.now.holdings) (at c.args.kept.now.holdings)) (sym c.if-is_bare.ensures.0) (λ u. refl));
      committed = abort_places c.args.role c.args.act c.in-Some.objects (g.D.Disk.file c.args.disk.now) c.requires.formed has (at c.args.kept.now.actions) (at c.take.new.self) (at c.args.kept.now.holdings) (at c.args.kept.now.holdings) c.requires.keeps.pending (g.D.Disk.file c.remove.new.self) c.in_ok-remove.ensures.ok (at c.args.kept.now.places) c.args.kept.now.numbers c.requires.keeps.committed;
    }

pub returns-then-is_bare-clause-formed : goal.returns-then-is_bare-clause-formed
returns-then-is_bare-clause-formed g c =
    let has : HasPending (g.D.Disk.file c.args.disk.now) c.args.role c.args.act c.in-Some.objects =
    an_action (g.D.Disk.file c.args.disk.now) c.args.role (at c.args.kept.now.actions) (at c.args.kept.now.holdings) c.requires.keeps.pending c.args.act c.in-Some.objects (sym c.take.ensures.value ∙ c.in-Some.is) in
    abort_end c.args.role c.args.act c.in-Some.objects (g.D.Disk.file c.args.disk.now) c.requires.formed has (at c.args.kept.now.actions) (at c.take.new.self) (at c.args.kept.now.holdings) (at c.args.kept.now.holdings) c.requires.keeps.pending (g.D.Disk.file c.remove.new.self) (inr c.in_ok-remove.ensures.ok)
