-- The states that the files give are of entries, whatever a call of the store left.
use Rattle.std.proofs.Common.{◌≡◌, ◌⊎◌, ◌∙◌, Bool, true, false, cond, List, [], ◌∷◌, refl, sym, ap, subst, inl, inr, ⊎_elim, Option, Some}
use Rattle.std.proofs.Common.{None}
use Rattle.std.specs.Prelude.{IfSome, IsSome, option_map, unwrap_or}
use Rattle.std.specs.List.{AllByRecursion}
use Rattle.arj_base.specs.State.{state_bytes, StateInForm}
use Rattle.arj_base.proofs.Packed.{state_once}
use Rattle.arj_disk.specs.declared.slot.Role.{Role}
use Rattle.arj_disk.specs.declared.slot.Role.TheVariants.{Names}
use Rattle.arj_naming.specs.Entries.{AreEntries, AreOfEntries, IsEntryState}
use Rattle.arj_naming.specs.Files.{GivesEntries}
use Rattle.arj_naming.proofs.Store.{in_form, one_each}
use Rattle.arj_protocol.specs.Effect.{Pair, held_at, moved_some, new_states, pair_prepared, pair_committed, pair_aborted, pair_in_part}
use Rattle.arj_protocol.specs.Order.{at_uid, put_uid}
use Rattle.arj_protocol.specs.Words.{Uid, ObjectState}
use Rattle.arj_store.specs.Pair as files
use Rattle.arj_store.specs.Pair.{packed}
use Rattle.arj_store.specs.declared.answer.Prep.{Prep}
use Rattle.arj_store.specs.declared.answer.Prep.TheVariants as prep
use Rattle.arj_law_store.specs.store.Files.{IsPairOf}
use Rattle.arj_law_store.proofs.store.Held.{all_put, all_without, found}
use Rattle.arj_law_store.proofs.store.Pairs.{moved_all, packed_once, pair_adds, pair_drops, pair_moves, pair_moves_some, pair_same}

-- ---- from the pair

pub gives_entries : (p : files.Pair) (d : Pair) → IsPairOf p d → AreEntries d → GivesEntries p
gives_entries p d are good = record { held = held; pend = pend }
  where
    held : (s : ObjectState) → files.IsHeld p s.uid s → IsEntryState s.uid s
    held s is = by (held_at s.uid d) refl (found IsEntryState s.uid d.held good.held)
      where
        by : (o : Option ObjectState) → held_at s.uid d ≡ o → IfSome o (IsEntryState s.uid) → IsEntryState s.uid s
        by None at all = absurd (cc (sym is.bytes ∙ (are.held s.uid ∙ ap (option_map state_bytes) at)))
        by (Some t) at all =
            let same : Some (state_bytes t) ≡ Some (state_bytes s) = sym (are.held s.uid ∙ ap (option_map state_bytes) at) ∙ is.bytes in
            subst (IsEntryState s.uid) (state_once t s all.state.in_form is.in_form (cc same)) all

    pend : (a : Uid) (states : List ObjectState) → p.pend a ≡ Some (packed states) → AllByRecursion StateInForm states → AreOfEntries states
    pend a states is form = by (at_uid a d.pend) refl (found (λ b ss. AreOfEntries ss) a d.pend good.pend)
      where
        by : (o : Option (List ObjectState)) → at_uid a d.pend ≡ o → IfSome o AreOfEntries → AreOfEntries states
        by None at all = absurd (cc (sym is ∙ (are.pend a ∙ ap (option_map packed) at)))
        by (Some ss) at all =
            let same : Some (packed ss) ≡ Some (packed states) = sym (are.pend a ∙ ap (option_map packed) at) ∙ is in
            subst AreOfEntries (packed_once ss states (in_form ss all.each) form (cc same)) all

pub gives_same : (p q : files.Pair) → files.SamePair p q → GivesEntries p → GivesEntries q
gives_same p q same gives = record {
  held = λ s is. gives.held s (record { bytes = sym (same.committed s.uid) ∙ is.bytes; in_form = is.in_form; own = is.own });
  pend = λ a states is form. gives.pend a states (sym (same.prepared a) ∙ is) form;
}

-- ---- after the work on the pair

module _ (d : Pair) (good : AreEntries d) (act : Uid) where
  good_aborted : AreEntries (pair_aborted act d)
  good_aborted = record { held = good.held; pend = all_without (λ u s. AreOfEntries s) act d.pend good.pend }

  good_prepared : (states : List ObjectState) → AreOfEntries states → AreEntries (pair_prepared act states d)
  good_prepared states new = record { held = good.held; pend = all_put (λ u s. AreOfEntries s) act states d.pend good.pend new }

  own : AllByRecursion (λ s. IsEntryState s.uid s) (new_states act d)
  own = by (at_uid act d.pend) (found (λ a states. AreOfEntries states) act d.pend good.pend)
    where
      by : (o : Option (List ObjectState)) → IfSome o AreOfEntries → AllByRecursion (λ s. IsEntryState s.uid s) (unwrap_or o [])
      by None all = tt
      by (Some states) all = all.each

  some_held : (which : Uid → Bool) (ss : List ObjectState) (held : List (Uid × ObjectState)) →
      AllByRecursion (λ s. IsEntryState s.uid s) ss → AllByRecursion (λ (e : Uid × ObjectState). IsEntryState e.0 e.1) held
      → AllByRecursion (λ (e : Uid × ObjectState). IsEntryState e.0 e.1) (moved_some which ss held)
  some_held which [] held new all = all
  some_held which (s ∷ ss) held new all = some_held which ss (cond (which s.uid) (put_uid s.uid s held) held) new.1 (by (which s.uid))
    where
      by : (b : Bool) → AllByRecursion (λ (e : Uid × ObjectState). IsEntryState e.0 e.1) (cond b (put_uid s.uid s held) held)
      by true = all_put IsEntryState s.uid s held all new.0
      by false = all

  good_part : (which : Uid → Bool) → AreEntries (pair_in_part which act d)
  good_part which = record { held = some_held which (new_states act d) d.held own good.held; pend = good.pend }

  good_committed : AreEntries (pair_committed act d)
  good_committed = record {
    held = subst (AllByRecursion (λ (e : Uid × ObjectState). IsEntryState e.0 e.1)) (sym (moved_all (new_states act d) d.held)) (some_held (λ u. true) (new_states act d) d.held own good.held);
    pend = all_without (λ u s. AreOfEntries s) act d.pend good.pend;
  }

-- ---- after a call

module _ (P Q : Role →
    files.Pair) (r : Role) (names_role : r ≡ Names) (d : Pair) (stands : IsPairOf (P Names) d) (good : AreEntries d) (act : Uid) where
  pub abort_gives : files.SamePair (P r) (Q r) ⊎ files.Drops (P r) (Q r) act → GivesEntries (Q Names)
  abort_gives did = ⊎_elim
      (λ (same : files.SamePair (P Names) (Q Names)). gives_entries (Q Names) d (pair_same (P Names) (Q Names) d same stands) good)
      (λ (drops : files.Drops (P Names) (Q Names) act). gives_entries (Q Names) (pair_aborted act d) (pair_drops (P Names) (Q Names) d act drops stands) (good_aborted d good act))
      (subst (λ k. files.SamePair (P k) (Q k) ⊎ files.Drops (P k) (Q k) act) names_role did)

  pub commit_gives : files.MovesSome (P r) (Q r) act ⊎ files.Moves (P r) (Q r) act → GivesEntries (Q Names)
  commit_gives did = ⊎_elim
      (λ (some : files.MovesSome (P Names) (Q Names) act). let part =
      pair_moves_some (P Names) (Q Names) d act (one_each d act good) some stands in gives_entries (Q Names) (pair_in_part part.0 act d) part.1 (good_part d good act part.0))
      (λ (all : files.Moves (P Names) (Q Names) act). gives_entries (Q Names) (pair_committed act d) (pair_moves (P Names) (Q Names) d act (one_each d act good) all stands) (good_committed d good act))
      (subst (λ k. files.MovesSome (P k) (Q k) act ⊎ files.Moves (P k) (Q k) act) names_role did)

  pub prepare_gives : (states : List ObjectState) → AreOfEntries states →
      files.SamePair (P r) (Q r) ⊎ files.Prepares (P r) (Q r) act states → GivesEntries (Q Names)
  prepare_gives states new did = ⊎_elim
      (λ (same : files.SamePair (P Names) (Q Names)). gives_entries (Q Names) d (pair_same (P Names) (Q Names) d same stands) good)
      (λ (more : files.Prepares (P Names) (Q Names) act states). gives_entries (Q Names) (pair_prepared act states d) (pair_adds (P Names) (Q Names) d act states (in_form states new.each) more.adds stands) (good_prepared d good act states new))
      (subst (λ k. files.SamePair (P k) (Q k) ⊎ files.Prepares (P k) (Q k) act states) names_role did)

  -- a prepare that is answered left the pair, or prepared the action
  answered : (states : List ObjectState) (a : Prep) → files.AnswersPrepare (P r) (Q r) act states a →
      files.SamePair (P r) (Q r) ⊎ files.Prepares (P r) (Q r) act states
  answered states prep.Prepared answers =
      ⊎_elim (λ (again : IsSome ((P r).pend act) × files.SamePair (P r) (Q r)). inl again.1) (λ (new : files.Prepares (P r) (Q r) act states). inr new) answers
  answered states (prep.InDoubt uid holder) answers = inl answers.2
  answered states (prep.Old uid v) answers = inl answers.2
  answered states (prep.Already uid by_act) answers = inl answers.2

  pub answer_gives : (states : List ObjectState) → AreOfEntries states → (a : Prep) → files.AnswersPrepare (P r) (Q r) act states a →
      GivesEntries (Q Names)
  answer_gives states new a answers = prepare_gives states new (answered states a answers)
