use Rattle.std.proofs.Common.{◌∙◌, ◌∷◌, ◌++◌, ◌+◌, List, ap, drop, sym, subst}
use Rattle.std.proofs.lemmas.List.{drop_more}
use Rattle.std.specs.List.{AllByRecursion}
use Rattle.arj_base.specs.Order.{uid_order}
use Rattle.arj_base.specs.declared.state.ObjectState.{ObjectState}
use Rattle.arj_base.specs.declared.uid.Uid.{Uid}
use Rattle.arj_naming.proofs.Appended.{entry_goes}
use Rattle.arj_naming.specs.Entries.{AreOfEntries}
use Rattle.arj_law_store.proofs.store.Keys.{total}
use Rattle.arj_naming.proofs.entries.Entries.prepare_all.Goals as goal

pub prepare-requires : goal.prepare-requires
prepare-requires c =
    let i = c.loop-action.action-index in
    let es = c.args.prepared.now in
    let e = c.loop-action-item.result in
    let step = drop_more es i e c.loop-action-test.true ∙ ap (λ t. t ∷ drop (i + 1) es) (sym c.loop-action-item.is) in
    let left = subst (AllByRecursion (λ (f : Uid × List ObjectState). AreOfEntries f.1)) step c.loop-action.invariant.left in
    subst AreOfEntries (sym (c.in_ok-copied.ensures ∙ c.as_slice.ensures)) left.0

pub loop-action-preserved : goal.loop-action-preserved
loop-action-preserved c =
    let i = c.loop-action.action-index in
    let es = c.args.prepared.now in
    let e = c.loop-action-item.result in
    let rest = drop (i + 1) es in
    let step = drop_more es i e c.loop-action-test.true ∙ ap (λ t. t ∷ rest) (sym c.loop-action-item.is) in
    let left = subst (AllByRecursion (λ (f : Uid × List ObjectState). AreOfEntries f.1)) step c.loop-action.invariant.left in
    record {
      held = ap (λ d. d.held) c.in_ok-prepare.ensures ∙ c.loop-action.invariant.held;
      pend = ap (λ d. d.pend ++ rest) c.in_ok-prepare.ensures
          ∙ entry_goes uid_order total c.loop-action.self.pend e.0 c.in_ok-copied.copied (drop i es) rest es c.loop-action.invariant.pend (step ∙ ap (λ ss. (e.0, ss) ∷ rest) (sym (c.in_ok-copied.ensures ∙ c.as_slice.ensures))) c.requires.by_action;
      left = left.1;
    }
