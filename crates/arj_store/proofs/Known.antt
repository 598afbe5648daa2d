-- Of which objects a pair knows, before a call and after it.
use Rattle.std.proofs.Common.{◌≡◌, ◌≢◌, ◌⊎◌, ◌∙◌, List, [], ◌∷◌, ℕ, refl, sym, ap, subst, inl, inr, ⊎_elim, map, Option, Some, None}
use Rattle.std.specs.Prelude.{IsSome, is_some, Contains}
use Rattle.arj_base.specs.declared.state.ObjectState.{ObjectState}
use Rattle.arj_base.specs.declared.uid.Uid.{Uid}
use Rattle.arj_disk.specs.Says.{names, new_of}
use Rattle.arj_store.specs.Pair.{Pair, InDoubt, IsKnown, SamePair, Adds, Drops, Moves, MovesSome, uid_of, packed, newer, held_after}
use Rattle.arj_store.proofs.Prepared.{among}
use Rattle.arj_store.proofs.Rows.{new_among}
use Rattle.arj_store.proofs.Uids.{uid_cases}

-- what is committed after a commit was there, or prepared
held_before : (p : Pair) (act u : Uid) → IsSome (held_after (p.pend act) u (p.held u)) → IsKnown p u
held_before p act u is = by (p.pend act) refl is
  where
    by_new : (states : List (Uid × List ℕ)) (o : Option (List ℕ)) → p.pend act ≡ Some states → new_of states u ≡ o →
        IsSome (newer o (p.held u)) → IsKnown p u
    by_new states None is none some = inl some
    by_new states (Some x) is found some = inr (act, rw is (ap is_some found))

    by : (o : Option (List (Uid × List ℕ))) → p.pend act ≡ o → IsSome (held_after o u (p.held u)) → IsKnown p u
    by None is some = inl some
    by (Some states) is some = by_new states (new_of states u) is refl some

pub same_known : (p q : Pair) → SamePair p q → (u : Uid) → IsKnown q u → IsKnown p u
same_known p q same u =
    ⊎_elim (λ (h : IsSome (q.held u)). inl (ap is_some (sym (same.committed u)) ∙ h)) (λ (h : InDoubt q u). inr (h.0, subst (λ o. names o u) (same.prepared h.0) h.1))

objects_packed : (states : List ObjectState) → map (λ e. e.0) (packed states) ≡ map uid_of states
objects_packed [] = refl
objects_packed (s ∷ ss) = ap (λ us. s.uid ∷ us) (objects_packed ss)

pub known_prepared : (p q : Pair) (act : Uid) (states : List ObjectState) → Adds p q act states → (u : Uid) → IsKnown q u →
    IsKnown p u ⊎ Contains (map uid_of states) u
known_prepared p q act states adds u = ⊎_elim (λ (h : IsSome (q.held u)). inl (inl (ap is_some (sym (adds.committed u)) ∙ h)))
    (λ (h : InDoubt q u). ⊎_elim (λ (e : h.0 ≡ act). inr (new (subst (λ a. names (q.pend a) u) e h.1))) (λ (other : h.0 ≢ act). inl (inr (h.0, subst (λ o. names o u) (adds.others h.0 other) h.1))) (uid_cases h.0 act))
  where
    new : names (q.pend act) u → Contains (map uid_of states) u
    new named = subst (λ us. Contains us u) (objects_packed states) (among (map (λ e. e.0) (packed states)) u (sym (new_among (packed states) u) ∙ subst (λ o. names o u) adds.here named))

pub known_dropped : (p q : Pair) (act : Uid) → Drops p q act → (u : Uid) → IsKnown q u → IsKnown p u
known_dropped p q act drops u = ⊎_elim (λ (h : IsSome (q.held u)). inl (ap is_some (sym (drops.committed u)) ∙ h))
    (λ (h : InDoubt q u). inr (h.0, ⊎_elim (λ (e : h.0 ≡ act). absurd (subst (λ o. names o u) (ap q.pend e ∙ drops.gone) h.1)) (λ (other : h.0 ≢ act). subst (λ o. names o u) (drops.others h.0 other) h.1) (uid_cases h.0 act)))

pub known_moved : (p q : Pair) (act : Uid) → Moves p q act → (u : Uid) → IsKnown q u → IsKnown p u
known_moved p q act moves u = ⊎_elim (λ (h : IsSome (q.held u)). held_before p act u (ap is_some (sym (moves.committed u)) ∙ h))
    (λ (h : InDoubt q u). inr (h.0, ⊎_elim (λ (e : h.0 ≡ act). absurd (subst (λ o. names o u) (ap q.pend e ∙ moves.gone) h.1)) (λ (other : h.0 ≢ act). subst (λ o. names o u) (moves.others h.0 other) h.1) (uid_cases h.0 act)))

pub known_in_part : (p q : Pair) (act : Uid) → MovesSome p q act → (u : Uid) → IsKnown q u → IsKnown p u
known_in_part p q act some u =
    ⊎_elim (λ (h : IsSome (q.held u)). held h (some.committed u)) (λ (h : InDoubt q u). inr (h.0, subst (λ o. names o u) (some.prepared h.0) h.1))
  where
    held : IsSome (q.held u) → (q.held u ≡ p.held u) ⊎ (q.held u ≡ held_after (p.pend act) u (p.held u)) → IsKnown p u
    held h = ⊎_elim (λ (e : q.held u ≡ p.held u). inl (ap is_some (sym e) ∙ h)) (λ (e : q.held u ≡ held_after (p.pend act) u (p.held u)). held_before p act u (ap is_some (sym e) ∙ h))
