-- A store whose states are of the first objects, or of their entries, knows of few.
use Rattle.arj_law_store.proofs.Terms
use Terms.{◌≡◌, ◌∙◌, ◌<◌, ℕ, zero, suc, List, [], ◌∷◌, Bool, true, false, cond, refl, sym, ap, subst, ⊎_elim, map, length, get_or, Option}
use Terms.{Some, None, arith, IsSome, IfSome, Contains, option_map, AllByRecursion, state_bytes, uid_eq, ObjectState, Uid, uid_is, names}
use Terms.{new_of, Pair, held_at, at_uid, packed, uid_of, IsPairOf}
use Terms.files
use Rattle.arj_law_store.proofs.store.Held.{found}
use Rattle.std.proofs.{Common.◌≤◌, lemmas.Bool.cases_eq}

contains_behind : (w u : Uid) (us : List Uid) → Contains us u → Contains (w ∷ us) u
contains_behind w u us c = (suc c.0, omega (arith, c.1), c.2)

-- `of` is the Uid that stands for a number
module _ (of : ℕ → Uid) where
  -- the Uids of the first n numbers
  abbrev pub uids_to : ℕ → List Uid
  uids_to zero = []
  uids_to (suc n) = of (suc n) ∷ uids_to n

  pub as_many : (n : ℕ) → length (uids_to n) ≡ n
  as_many zero = refl
  as_many (suc n) = ap suc (as_many n)

  among_all : (n x : ℕ) → 1 ≤ x → x ≤ n → Contains (uids_to n) (of x)
  among_all zero x one most = absurd (omega (arith, one, most))
  among_all (suc n) x one most = ⊎_elim
      (λ (same : x ≡ suc n). let here : Contains (of (suc n) ∷ uids_to n) (of (suc n)) = (zero, omega arith, refl) in
      subst (λ y. Contains (uids_to (suc n)) (of y)) (sym same) here)
      (λ (other : x ≡ suc n → ⊥). contains_behind (of (suc n)) (of x) (uids_to n) (among_all n x one (omega (arith, most, other))))
      (cases_eq x (suc n))

  -- a Uid of one of the first 256 numbers
  abbrev pub IsOneOf : Uid → Type 0
  IsOneOf u = (1 ≤ u.num) × (u.num ≤ 256) × (u ≡ of u.num)

  pub known_among : (u : Uid) → IsOneOf u → Contains (uids_to 256) u
  known_among u is = subst (Contains (uids_to 256)) (sym is.2) (among_all 256 u.num is.0 is.1)

  -- states that are `Good` under their Uids are of such ones
  module _ (Good : Uid → ObjectState → Type 0) (own : (u : Uid) (s : ObjectState) → Good u s → IsOneOf u) where
    named_among : (states : List ObjectState) (u : Uid) → AllByRecursion (λ s. Good s.uid s) states → IsSome (new_of (packed states) u) →
        IsOneOf u
    named_among [] u all named = absurd (cc named)
    named_among (s ∷ ss) u all named = by (uid_eq u s.uid) refl named (named_among ss u all.1)
      where
        by : (b : Bool) → uid_eq u s.uid ≡ b → IsSome (cond b (Some (state_bytes s)) (new_of (packed ss) u)) →
            (IsSome (new_of (packed ss) u) → IsOneOf u) → IsOneOf u
        by true is named rest = subst IsOneOf (sym (uid_is u s.uid is)) (own s.uid s all.0)
        by false is named rest = rest named

    added_at : (states : List ObjectState) (i : ℕ) (u : Uid) → AllByRecursion (λ s. Good s.uid s) states → i < length (map uid_of states) →
        get_or (map uid_of states) i u ≡ u → IsOneOf u
    added_at [] i u all within is = absurd (omega (arith, within))
    added_at (s ∷ ss) zero u all within is = subst IsOneOf is (own s.uid s all.0)
    added_at (s ∷ ss) (suc i) u all within is = added_at ss i u all.1 (omega (arith, within)) is

    pub added_all : (states : List ObjectState) → AllByRecursion (λ s. Good s.uid s) states → (u : Uid) → Contains (map uid_of states) u →
        Contains (uids_to 256) u
    added_all states all u c = known_among u (added_at states c.0 u all c.1 c.2)

    -- each object of which the store knows is one of the first 256
    pub known_all : (p : files.Pair) (d : Pair) → IsPairOf p d → AllByRecursion (λ (e : Uid × ObjectState). Good e.0 e.1) d.held
        → AllByRecursion (λ (e : Uid × List ObjectState). AllByRecursion (λ s. Good s.uid s) e.1) d.pend → (u : Uid) → files.IsKnown p u →
        Contains (uids_to 256) u
    known_all p d are good_held good_pend u known = known_among u (⊎_elim held prepared known)
      where
        held : IsSome (p.held u) → IsOneOf u
        held is = by (held_at u d) refl (found Good u d.held good_held)
          where
            by : (o : Option ObjectState) → held_at u d ≡ o → IfSome o (Good u) → IsOneOf u
            by None at all = absurd (cc (subst IsSome (are.held u ∙ ap (option_map state_bytes) at) is))
            by (Some s) at all = own u s all

        prepared : files.InDoubt p u → IsOneOf u
        prepared is = by (at_uid is.0 d.pend) refl (found (λ a states. AllByRecursion (λ s. Good s.uid s) states) is.0 d.pend good_pend)
          where
            by : (o : Option (List ObjectState)) → at_uid is.0 d.pend ≡ o →
                IfSome o (λ states. AllByRecursion (λ s. Good s.uid s) states) → IsOneOf u
            by None at all = absurd (subst (λ o. names o u) (are.pend is.0 ∙ ap (option_map packed) at) is.1)
            by (Some states) at all = named_among states u all (subst (λ o. names o u) (are.pend is.0 ∙ ap (option_map packed) at) is.1)
