-- What a store's recovery finds is the pair that its files give.
use Rattle.arj_law_store.proofs.Terms
use Terms.{◌≡◌, ◌<◌, ℕ, zero, suc, Bool, true, false, cond, List, [], ◌∷◌, refl, ap, sym, subst, map, length, get_or, Option, Some, None}
use Terms.{arith, IsSome, IfSome, Contains, option_map, AllByRecursion, keys_of, is_eq, state_bytes, StateInForm, at_uid, Uid, ObjectState}
use Terms.{uid_order, packed, uid_of, IsPairOf}
use Terms.files
use Rattle.arj_law_store.proofs.store.{Held.found, Keys.here}
use Rattle.arj_law_store.specs.store.Found.{by_uid, pair_found}
use Rattle.arj_store.specs.declared.answer.Found.{Found}
use Rattle.std.specs.List.Sorted.{IsStrictlySortedBy}

pub keys_by_uid : (ss : List ObjectState) → keys_of (by_uid ss) ≡ map uid_of ss
keys_by_uid [] = refl
keys_by_uid (s ∷ ss) = ap (λ us. s.uid ∷ us) (keys_by_uid ss)

module _ {X : Type 0} where
  present_at : (es : List (Uid × X)) (k : ℕ) (u : Uid) → k < length (keys_of es) → get_or (keys_of es) k u ≡ u → IsSome (at_uid u es)
  present_at [] k u within is = absurd (omega (arith, within))
  present_at (e ∷ es) zero u within is = let first : IsSome (at_uid e.0 (e ∷ es)) = subst IsSome (sym (here e es)) refl in
      subst (λ w. IsSome (at_uid w (e ∷ es))) is first
  present_at (e ∷ es) (suc k) u within is = by (is_eq (uid_order u e.0)) (present_at es k u (omega (arith, within)) is)
    where
      by : (b : Bool) → IsSome (at_uid u es) → IsSome (cond b (Some e.1) (at_uid u es))
      by true more = refl
      by false more = more

module _ {X Y : Type 0} (value : Uid → Option Y) (f : X → Y) (es : List (Uid × X)) where
  same_at : AllByRecursion (λ (e : Uid × X). value e.0 ≡ Some (f e.1)) es → ((u : Uid) → IsSome (value u) → Contains (keys_of es) u) →
      (u : Uid) → value u ≡ option_map f (at_uid u es)
  same_at all every u = by (at_uid u es) refl (found (λ (w : Uid) (x : X). value w ≡ Some (f x)) u es all)
    where
      none : (v : Option Y) → value u ≡ v → at_uid u es ≡ None → value u ≡ None
      none None is gone = is
      none (Some y) is gone = let c = every u (subst IsSome (sym is) refl) in absurd (cc (subst IsSome gone (present_at es c.0 u c.1 c.2)))

      by : (o : Option X) → at_uid u es ≡ o → IfSome o (λ x. value u ≡ Some (f x)) → value u ≡ option_map f o
      by (Some x) at is = is
      by None at is = none (value u) refl at

module _ (q : files.Pair) where
  bytes_by_uid : (ss : List ObjectState) → AllByRecursion (λ (s : ObjectState). files.IsHeld q s.uid s) ss →
      AllByRecursion (λ (e : Uid × ObjectState). q.held e.0 ≡ Some (state_bytes e.1)) (by_uid ss)
  bytes_by_uid [] all = tt
  bytes_by_uid (s ∷ ss) all = (all.0.bytes, bytes_by_uid ss all.1)

  packed_by_action : (es : List (Uid × List ObjectState)) → AllByRecursion (λ (e : Uid × List ObjectState). (q.pend e.0 ≡ Some (packed e.1))
      × AllByRecursion StateInForm e.1) es → AllByRecursion (λ (e : Uid × List ObjectState). q.pend e.0 ≡ Some (packed e.1)) es
  packed_by_action [] all = tt
  packed_by_action (e ∷ es) all = (all.0.0, packed_by_action es all.1)

  held_form : (ss : List ObjectState) → AllByRecursion (λ (s : ObjectState). files.IsHeld q s.uid s) ss →
      AllByRecursion (λ (e : Uid × ObjectState). StateInForm e.1) (by_uid ss)
  held_form [] all = tt
  held_form (s ∷ ss) all = (all.0.in_form, held_form ss all.1)

  pend_form : (es : List (Uid × List ObjectState)) → AllByRecursion (λ (e : Uid × List ObjectState). (q.pend e.0 ≡ Some (packed e.1))
      × AllByRecursion StateInForm e.1) es → AllByRecursion (λ (e : Uid × List ObjectState). AllByRecursion StateInForm e.1) es
  pend_form [] all = tt
  pend_form (e ∷ es) all = (all.0.1, pend_form es all.1)

  pub pair_of_found : (f : Found) → files.FindsPair q f → IsPairOf q (pair_found f)
  pair_of_found f finds = record {
    held = same_at q.held state_bytes (by_uid f.committed) (bytes_by_uid f.committed finds.committed)
        (λ u is. subst (λ ks. Contains ks u) (sym (keys_by_uid f.committed)) (finds.every_committed u is));
    pend = same_at q.pend packed f.prepared (packed_by_action f.prepared finds.prepared) finds.every_prepared;
    held_rises = subst (IsStrictlySortedBy uid_order) (sym (keys_by_uid f.committed)) finds.by_uid;
    pend_rises = finds.by_action;
    in_form = record { held = held_form f.committed finds.committed; pend = pend_form f.prepared finds.prepared };
  }
