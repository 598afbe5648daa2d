-- A store that has these states alone has the protocol's first pair.
use Rattle.std.proofs.Common.{◌≡◌, ◌∙◌, ◌<◌, ℕ, zero, suc, Bool, true, false, cond, List, [], ◌∷◌, map, length, get_or, refl, sym, ap}
use Rattle.std.proofs.Common.{subst, Option, Some, None, arith}
use Rattle.std.specs.Prelude.{IsSome, IfSome, option_map}
use Rattle.std.specs.List.{AllByRecursion, IsDistinct}
use Rattle.std.specs.List.Sorted.{IsStrictlySortedBy}
use Rattle.arj_base.specs.State.{state_bytes, StateInForm}
use Rattle.arj_base.specs.Uid.{uid_eq, nobody}
use Rattle.arj_base.proofs.Uids.{uid_is, uid_same, uid_other}
use Rattle.arj_disk.specs.Says.{new_of}
use Rattle.arj_protocol.specs.Effect.{Pair, moved}
use Rattle.arj_protocol.specs.Order.{at_uid, put_uid}
use Rattle.arj_protocol.specs.Step.{put_states, pair_with}
use Rattle.arj_protocol.specs.Words.{ObjectState, Uid}
use Rattle.arj_store.specs.Pair as files
use Rattle.arj_store.specs.Pair.{HasOnly, packed, uid_of, newer}
use Rattle.arj_law_store.specs.store.Files.{IsPairOf}
use Rattle.arj_law_store.proofs.store.Keys.{tied_is}
use Rattle.arj_law_store.proofs.store.Pairs.{pair_moves}

module _ (q : files.Pair) where
  held_of : (ss : List ObjectState) (u : Uid) → AllByRecursion (λ (s : ObjectState). q.held s.uid ≡ Some (state_bytes s)) ss →
      IfSome (new_of (packed ss) u) (λ bytes. q.held u ≡ Some bytes)
  held_of [] u all = tt
  held_of (s ∷ ss) u all = by (uid_eq u s.uid) refl (held_of ss u all.1)
    where
      by : (b : Bool) → uid_eq u s.uid ≡ b → IfSome (new_of (packed ss) u) (λ bytes. q.held u ≡ Some bytes) →
          IfSome (cond b (Some (state_bytes s)) (new_of (packed ss) u)) (λ bytes. q.held u ≡ Some bytes)
      by true is rest = ap q.held (uid_is u s.uid is) ∙ all.0
      by false is rest = rest

  named_at : (ss : List ObjectState) (k : ℕ) (u : Uid) → k < length (map uid_of ss) → get_or (map uid_of ss) k u ≡ u →
      IsSome (new_of (packed ss) u)
  named_at [] k u within is = absurd (omega (arith, within))
  named_at (s ∷ ss) zero u within is =
      subst (λ w. IsSome (cond (uid_eq w s.uid) (Some (state_bytes s)) (new_of (packed ss) w))) is (subst (λ b. IsSome (cond b (Some (state_bytes s)) (new_of (packed ss) s.uid))) (sym (uid_same s.uid)) refl)
  named_at (s ∷ ss) (suc k) u within is = by (uid_eq u s.uid) (named_at ss k u (omega (arith, within)) is)
    where
      by : (b : Bool) → IsSome (new_of (packed ss) u) → IsSome (cond b (Some (state_bytes s)) (new_of (packed ss) u))
      by true more = refl
      by false more = more

  held_now : (ss : List ObjectState) (u : Uid) → HasOnly q ss → q.held u ≡ newer (new_of (packed ss) u) None
  held_now ss u only = by (new_of (packed ss) u) refl (held_of ss u only.each)
    where
      none : (v : Option (List ℕ)) → q.held u ≡ v → new_of (packed ss) u ≡ None → q.held u ≡ None
      none None is gone = is
      none (Some bytes) is gone =
          let c = only.others u (subst IsSome (sym is) refl) in absurd (cc (subst IsSome gone (named_at ss c.0 u c.1 c.2)))

      by : (o : Option (List ℕ)) → new_of (packed ss) u ≡ o → IfSome o (λ bytes. q.held u ≡ Some bytes) → q.held u ≡ newer o None
      by (Some bytes) is here = here
      by None is here = none (q.held u) refl is

put_moved : (ss : List ObjectState) (held : List (Uid × ObjectState)) → moved ss held ≡ put_states ss held
put_moved [] held = refl
put_moved (s ∷ ss) held = put_moved ss (put_uid s.uid s held)

-- as if one action had prepared the states, which are in form, and were committed
module _ (ss : List ObjectState) (form : AllByRecursion StateInForm ss) where
  abbrev before : Pair
  before = record { held = []; pend = (nobody, ss) ∷ [] }

  abbrev shown : files.Pair
  shown = record { held = λ u. None; pend = λ a. option_map packed (at_uid a before.pend) }

  is_before : IsPairOf shown before
  unfolding IsStrictlySortedBy
  is_before = record {
    held = λ u. refl;
    pend = λ a. refl;
    held_rises = tt;
    pend_rises = (tt, tt);
    in_form =
        record { held = tt; pend = (form, tt) };
  }

  pub first_pair : (q : files.Pair) → IsDistinct uid_eq (map uid_of ss) → HasOnly q ss → IsPairOf q (pair_with ss)
  first_pair q once only = subst (λ held. IsPairOf q (record { held = held; pend = [] })) (put_moved ss [])
      (pair_moves shown q before nobody once (record {
        committed = λ u. held_now q ss u only;
        gone = only.none nobody;
        others =
            λ a other. only.none a ∙ none_at a other;
      }) is_before)
    where
      none_at : (a : Uid) → (a ≡ nobody → ⊥) → None ≡ shown.pend a
      none_at a other = λ i. option_map packed (cond (sym (tied_is a nobody ∙ uid_other nobody a (λ e. other (sym e))) i) (Some ss) None)
