use Rattle.std.proofs.Common.{◌≡◌, ◌∙◌, sym, ap, subst, inr, map, None}
use Rattle.std.specs.List.{AllByRecursion}
use Rattle.arj_store.specs.OfFiles.{IsClear, IsRefused, pair_of}
use Rattle.arj_store.specs.Pair.{uid_of}
use Rattle.arj_store.specs.Shadow.{objects_of}
use Rattle.arj_store.specs.Table.{at}
use Rattle.arj_store.proofs.Ends.{on_err}
use Rattle.arj_store.specs.Named.{pend_none}
use Rattle.arj_store.proofs.Refusals.{clear_all}
use Rattle.arj_store.proofs.Prepares.{none_kept, answers_refusal, prepared_now, prepare_fault, prepare_formed, prepare_others}
use Rattle.arj_store.proofs.Prepares.{prepare_keeps, put_from, all_from}
use Rattle.arj_store.proofs.shadow.ShadowStoreObjectStore.prepare.Goals as goal

pub returns-in-Some-clause-answer : goal.returns-in-Some-clause-answer
returns-in-Some-clause-answer g c =
    let first : objects_of (g.D.Disk.file c.args.disk.now) c.args.self.now.role c.args.act ≡ None =
    sym (c.requires.keeps.actions_are c.args.act) ∙ none_kept c.get.result (at c.args.self.now.pending.actions c.args.act) c.get.ensures (sym c.is_some.ensures ∙ c.if-is_some.false) in
    let refused : IsRefused (g.D.Disk.file c.args.disk.now) c.args.self.now.role c.args.act c.args.states.now c.in-Some.refusal =
    subst (λ ss. IsRefused (g.D.Disk.file c.args.disk.now) c.args.self.now.role c.args.act ss c.in-Some.refusal) c.as_slice-states.ensures (rw c.in-Some.is at c.in_ok-refusal.ensures.answer) in
    answers_refusal c.args.self.now.role (g.D.Disk.file c.args.disk.now) (g.D.Disk.file c.refusal.new.disk) c.args.act c.args.states.now c.in-Some.refusal (pend_none (g.D.Disk.file c.args.disk.now) c.args.self.now.role c.args.act first) refused c.refusal.ensures.files

pub returns-in_err-put_prepared-clause-fault : goal.returns-in_err-put_prepared-clause-fault
returns-in_err-put_prepared-clause-fault g c =
    let first : objects_of (g.D.Disk.file c.args.disk.now) c.args.self.now.role c.args.act ≡ None =
    sym (c.requires.keeps.actions_are c.args.act) ∙ none_kept c.get.result (at c.args.self.now.pending.actions c.args.act) c.get.ensures (sym c.is_some.ensures ∙ c.if-is_some.false) in
    let clear : AllByRecursion (IsClear (g.D.Disk.file c.args.disk.now) c.args.self.now.role c.args.act) c.args.states.now =
    subst (λ ss. AllByRecursion (IsClear (g.D.Disk.file c.args.disk.now) c.args.self.now.role c.args.act) ss) c.as_slice-states.ensures (rw c.in_default.is at c.in_ok-refusal.ensures.answer) in
    on_err c.from_residual-in_err-put_prepared.result (prepare_fault c.args.self.now.role c.args.act c.args.states.now (g.D.Disk.file c.args.disk.now) (g.D.Disk.file c.put_prepared.new.disk) c.requires.formed clear c.requires.states.own first (put_from c.args.self.now.role c.args.act c.args.states.now (g.D.Disk.file c.args.disk.now) (g.D.Disk.file c.put_prepared.new.disk) c.requires.formed clear c.requires.states.own first (g.D.Disk.file c.refusal.new.disk) c.as_slice-states.result.now c.refusal.ensures.files c.as_slice-states.ensures c.put_prepared.ensures.files))

pub returns-in_err-put_prepared-clause-formed : goal.returns-in_err-put_prepared-clause-formed
returns-in_err-put_prepared-clause-formed g c =
    let first : objects_of (g.D.Disk.file c.args.disk.now) c.args.self.now.role c.args.act ≡ None =
    sym (c.requires.keeps.actions_are c.args.act) ∙ none_kept c.get.result (at c.args.self.now.pending.actions c.args.act) c.get.ensures (sym c.is_some.ensures ∙ c.if-is_some.false) in
    let clear : AllByRecursion (IsClear (g.D.Disk.file c.args.disk.now) c.args.self.now.role c.args.act) c.args.states.now =
    subst (λ ss. AllByRecursion (IsClear (g.D.Disk.file c.args.disk.now) c.args.self.now.role c.args.act) ss) c.as_slice-states.ensures (rw c.in_default.is at c.in_ok-refusal.ensures.answer) in
    prepare_formed c.args.self.now.role c.args.act c.args.states.now (g.D.Disk.file c.args.disk.now) (g.D.Disk.file c.put_prepared.new.disk) c.requires.formed clear c.requires.states.own first c.requires.few (put_from c.args.self.now.role c.args.act c.args.states.now (g.D.Disk.file c.args.disk.now) (g.D.Disk.file c.put_prepared.new.disk) c.requires.formed clear c.requires.states.own first (g.D.Disk.file c.refusal.new.disk) c.as_slice-states.result.now c.refusal.ensures.files c.as_slice-states.ensures c.put_prepared.ensures.files)

pub returns-in_err-put_prepared-clause-others : goal.returns-in_err-put_prepared-clause-others
returns-in_err-put_prepared-clause-others g c =
    let first : objects_of (g.D.Disk.file c.args.disk.now) c.args.self.now.role c.args.act ≡ None =
    sym (c.requires.keeps.actions_are c.args.act) ∙ none_kept c.get.result (at c.args.self.now.pending.actions c.args.act) c.get.ensures (sym c.is_some.ensures ∙ c.if-is_some.false) in
    let clear : AllByRecursion (IsClear (g.D.Disk.file c.args.disk.now) c.args.self.now.role c.args.act) c.args.states.now =
    subst (λ ss. AllByRecursion (IsClear (g.D.Disk.file c.args.disk.now) c.args.self.now.role c.args.act) ss) c.as_slice-states.ensures (rw c.in_default.is at c.in_ok-refusal.ensures.answer) in
    prepare_others c.args.self.now.role c.args.act c.args.states.now (g.D.Disk.file c.args.disk.now) (g.D.Disk.file c.put_prepared.new.disk) c.requires.formed clear c.requires.states.own first (put_from c.args.self.now.role c.args.act c.args.states.now (g.D.Disk.file c.args.disk.now) (g.D.Disk.file c.put_prepared.new.disk) c.requires.formed clear c.requires.states.own first (g.D.Disk.file c.refusal.new.disk) c.as_slice-states.result.now c.refusal.ensures.files c.as_slice-states.ensures c.put_prepared.ensures.files)

pub returns-in_err-add-clause-fault : goal.returns-in_err-add-clause-fault
returns-in_err-add-clause-fault g c =
    let first : objects_of (g.D.Disk.file c.args.disk.now) c.args.self.now.role c.args.act ≡ None =
    sym (c.requires.keeps.actions_are c.args.act) ∙ none_kept c.get.result (at c.args.self.now.pending.actions c.args.act) c.get.ensures (sym c.is_some.ensures ∙ c.if-is_some.false) in
    let clear : AllByRecursion (IsClear (g.D.Disk.file c.args.disk.now) c.args.self.now.role c.args.act) c.args.states.now =
    subst (λ ss. AllByRecursion (IsClear (g.D.Disk.file c.args.disk.now) c.args.self.now.role c.args.act) ss) c.as_slice-states.ensures (rw c.in_default.is at c.in_ok-refusal.ensures.answer) in
    on_err c.from_residual-in_err-add.result (prepare_fault c.args.self.now.role c.args.act c.args.states.now (g.D.Disk.file c.args.disk.now) (g.D.Disk.file c.put_prepared.new.disk) c.requires.formed clear c.requires.states.own first (put_from c.args.self.now.role c.args.act c.args.states.now (g.D.Disk.file c.args.disk.now) (g.D.Disk.file c.put_prepared.new.disk) c.requires.formed clear c.requires.states.own first (g.D.Disk.file c.refusal.new.disk) c.as_slice-states.result.now c.refusal.ensures.files c.as_slice-states.ensures c.put_prepared.ensures.files))

pub returns-in_err-add-clause-formed : goal.returns-in_err-add-clause-formed
returns-in_err-add-clause-formed g c =
    let first : objects_of (g.D.Disk.file c.args.disk.now) c.args.self.now.role c.args.act ≡ None =
    sym (c.requires.keeps.actions_are c.args.act) ∙ none_kept c.get.result (at c.args.self.now.pending.actions c.args.act) c.get.ensures (sym c.is_some.ensures ∙ c.if-is_some.false) in
    let clear : AllByRecursion (IsClear (g.D.Disk.file c.args.disk.now) c.args.self.now.role c.args.act) c.args.states.now =
    subst (λ ss. AllByRecursion (IsClear (g.D.Disk.file c.args.disk.now) c.args.self.now.role c.args.act) ss) c.as_slice-states.ensures (rw c.in_default.is at c.in_ok-refusal.ensures.answer) in
    prepare_formed c.args.self.now.role c.args.act c.args.states.now (g.D.Disk.file c.args.disk.now) (g.D.Disk.file c.put_prepared.new.disk) c.requires.formed clear c.requires.states.own first c.requires.few (put_from c.args.self.now.role c.args.act c.args.states.now (g.D.Disk.file c.args.disk.now) (g.D.Disk.file c.put_prepared.new.disk) c.requires.formed clear c.requires.states.own first (g.D.Disk.file c.refusal.new.disk) c.as_slice-states.result.now c.refusal.ensures.files c.as_slice-states.ensures c.put_prepared.ensures.files)

pub returns-in_err-add-clause-others : goal.returns-in_err-add-clause-others
returns-in_err-add-clause-others g c =
    let first : objects_of (g.D.Disk.file c.args.disk.now) c.args.self.now.role c.args.act ≡ None =
    sym (c.requires.keeps.actions_are c.args.act) ∙ none_kept c.get.result (at c.args.self.now.pending.actions c.args.act) c.get.ensures (sym c.is_some.ensures ∙ c.if-is_some.false) in
    let clear : AllByRecursion (IsClear (g.D.Disk.file c.args.disk.now) c.args.self.now.role c.args.act) c.args.states.now =
    subst (λ ss. AllByRecursion (IsClear (g.D.Disk.file c.args.disk.now) c.args.self.now.role c.args.act) ss) c.as_slice-states.ensures (rw c.in_default.is at c.in_ok-refusal.ensures.answer) in
    prepare_others c.args.self.now.role c.args.act c.args.states.now (g.D.Disk.file c.args.disk.now) (g.D.Disk.file c.put_prepared.new.disk) c.requires.formed clear c.requires.states.own first (put_from c.args.self.now.role c.args.act c.args.states.now (g.D.Disk.file c.args.disk.now) (g.D.Disk.file c.put_prepared.new.disk) c.requires.formed clear c.requires.states.own first (g.D.Disk.file c.refusal.new.disk) c.as_slice-states.result.now c.refusal.ensures.files c.as_slice-states.ensures c.put_prepared.ensures.files)

pub returns-clause-answer : goal.returns-clause-answer
returns-clause-answer g c =
    let first : objects_of (g.D.Disk.file c.args.disk.now) c.args.self.now.role c.args.act ≡ None =
    sym (c.requires.keeps.actions_are c.args.act) ∙ none_kept c.get.result (at c.args.self.now.pending.actions c.args.act) c.get.ensures (sym c.is_some.ensures ∙ c.if-is_some.false) in
    let clear : AllByRecursion (IsClear (g.D.Disk.file c.args.disk.now) c.args.self.now.role c.args.act) c.args.states.now =
    subst (λ ss. AllByRecursion (IsClear (g.D.Disk.file c.args.disk.now) c.args.self.now.role c.args.act) ss) c.as_slice-states.ensures (rw c.in_default.is at c.in_ok-refusal.ensures.answer) in
    inr (prepared_now c.args.self.now.role c.args.act c.args.states.now (g.D.Disk.file c.args.disk.now) (g.D.Disk.file c.put_prepared.new.disk) c.requires.formed clear c.requires.states.own first (all_from c.args.self.now.role c.args.act c.args.states.now (g.D.Disk.file c.args.disk.now) (g.D.Disk.file c.put_prepared.new.disk) c.requires.formed clear c.requires.states.own first (g.D.Disk.file c.refusal.new.disk) c.as_slice-states.result.now c.refusal.ensures.files c.as_slice-states.ensures c.in_ok-put_prepared.ensures.ok))

pub returns-clause-keeps : goal.returns-clause-keeps
returns-clause-keeps g c =
    let first : objects_of (g.D.Disk.file c.args.disk.now) c.args.self.now.role c.args.act ≡ None =
    sym (c.requires.keeps.actions_are c.args.act) ∙ none_kept c.get.result (at c.args.self.now.pending.actions c.args.act) c.get.ensures (sym c.is_some.ensures ∙ c.if-is_some.false) in
    let clear : AllByRecursion (IsClear (g.D.Disk.file c.args.disk.now) c.args.self.now.role c.args.act) c.args.states.now =
    subst (λ ss. AllByRecursion (IsClear (g.D.Disk.file c.args.disk.now) c.args.self.now.role c.args.act) ss) c.as_slice-states.ensures (rw c.in_default.is at c.in_ok-refusal.ensures.answer) in
    prepare_keeps c.args.self.now.role c.args.act c.args.states.now (g.D.Disk.file c.args.disk.now) (g.D.Disk.file c.put_prepared.new.disk) c.requires.formed clear c.requires.states.own first c.in_ok-objects.objects (c.in_ok-objects.ensures ∙ ap (map uid_of) c.as_slice-states.ensures) (all_from c.args.self.now.role c.args.act c.args.states.now (g.D.Disk.file c.args.disk.now) (g.D.Disk.file c.put_prepared.new.disk) c.requires.formed clear c.requires.states.own first (g.D.Disk.file c.refusal.new.disk) c.as_slice-states.result.now c.refusal.ensures.files c.as_slice-states.ensures c.in_ok-put_prepared.ensures.ok) (at c.args.self.now.pending.actions) (at c.add.new.self.actions) (at c.args.self.now.pending.holdings) (at c.add.new.self.holdings) c.requires.keeps c.in_ok-add.ensures.actions c.in_ok-add.ensures.holdings

pub returns-clause-formed : goal.returns-clause-formed
returns-clause-formed g c =
    let first : objects_of (g.D.Disk.file c.args.disk.now) c.args.self.now.role c.args.act ≡ None =
    sym (c.requires.keeps.actions_are c.args.act) ∙ none_kept c.get.result (at c.args.self.now.pending.actions c.args.act) c.get.ensures (sym c.is_some.ensures ∙ c.if-is_some.false) in
    let clear : AllByRecursion (IsClear (g.D.Disk.file c.args.disk.now) c.args.self.now.role c.args.act) c.args.states.now =
    subst (λ ss. AllByRecursion (IsClear (g.D.Disk.file c.args.disk.now) c.args.self.now.role c.args.act) ss) c.as_slice-states.ensures (rw c.in_default.is at c.in_ok-refusal.ensures.answer) in
    prepare_formed c.args.self.now.role c.args.act c.args.states.now (g.D.Disk.file c.args.disk.now) (g.D.Disk.file c.put_prepared.new.disk) c.requires.formed clear c.requires.states.own first c.requires.few (put_from c.args.self.now.role c.args.act c.args.states.now (g.D.Disk.file c.args.disk.now) (g.D.Disk.file c.put_prepared.new.disk) c.requires.formed clear c.requires.states.own first (g.D.Disk.file c.refusal.new.disk) c.as_slice-states.result.now c.refusal.ensures.files c.as_slice-states.ensures c.put_prepared.ensures.files)

pub returns-clause-others : goal.returns-clause-others
returns-clause-others g c =
    let first : objects_of (g.D.Disk.file c.args.disk.now) c.args.self.now.role c.args.act ≡ None =
    sym (c.requires.keeps.actions_are c.args.act) ∙ none_kept c.get.result (at c.args.self.now.pending.actions c.args.act) c.get.ensures (sym c.is_some.ensures ∙ c.if-is_some.false) in
    let clear : AllByRecursion (IsClear (g.D.Disk.file c.args.disk.now) c.args.self.now.role c.args.act) c.args.states.now =
    subst (λ ss. AllByRecursion (IsClear (g.D.Disk.file c.args.disk.now) c.args.self.now.role c.args.act) ss) c.as_slice-states.ensures (rw c.in_default.is at c.in_ok-refusal.ensures.answer) in
    prepare_others c.args.self.now.role c.args.act c.args.states.now (g.D.Disk.file c.args.disk.now) (g.D.Disk.file c.put_prepared.new.disk) c.requires.formed clear c.requires.states.own first (put_from c.args.self.now.role c.args.act c.args.states.now (g.D.Disk.file c.args.disk.now) (g.D.Disk.file c.put_prepared.new.disk) c.requires.formed clear c.requires.states.own first (g.D.Disk.file c.refusal.new.disk) c.as_slice-states.result.now c.refusal.ensures.files c.as_slice-states.ensures c.put_prepared.ensures.files)

pub returns-in-Some-clause-clear : goal.returns-in-Some-clause-clear
returns-in-Some-clause-clear g c first clear =
    let refused : IsRefused (g.D.Disk.file c.args.disk.now) c.args.self.now.role c.args.act c.args.states.now c.in-Some.refusal =
    subst (λ ss. IsRefused (g.D.Disk.file c.args.disk.now) c.args.self.now.role c.args.act ss c.in-Some.refusal) c.as_slice-states.ensures (rw c.in-Some.is at c.in_ok-refusal.ensures.answer) in
    absurd (clear_all (pair_of (g.D.Disk.file c.args.disk.now) c.args.self.now.role) c.args.act c.args.states.now c.in-Some.refusal clear refused)
