-- What a root has of includes, and of what its constituents wrote.
use Rattle.arj_law_parts.proofs.Words
use Words.{◌≡◌, ◌⊎◌, ℕ, ◌==◌, ◌&&◌, List, [], ◌∷◌, Bool, true, false, cond, Option, Some, None, refl, sym, ◌∙◌, ap, subst, inl, inr, ⊎_elim}
use Words.{find, Contains, if◌then◌else◌, nat_lt, option_map, nat_cmp, is_eq, and_parts, uid_is, uid_same, In as Stands, in_filter, in_from}
use Words.{in_to, Uid, ObjectState, is_on, last_uid, object, uid_eq, changed_of, Coord, Joined, Root, joined_with, joins_on, later_state}
use Words.{latest_of, loaded_for, or_kept_state, same_join, survives, states_after, at_number, put_number, uid_number, is_merged, put_other}
use Words.{put_same, one_or_two}
use Words.commit
use Rattle.arj_law_disk_view.proofs.Terms
use Terms.{Names, load_of, newer, or_else, written_in, State, falls_to, never, some_is, test_is, test_same, Among, packed, Kinds, IsTopOf}
use Terms.{HasLoad, HaveLoads, KeepsState}
use Rattle.arj_law_disk_view.specs.names.Loads.{CommitsHaveLoads, DecisionsKeepStates, HasLoaded, LoadsAreHeard}

-- ---- an include is answered

later_cases : (P : ObjectState → Type 0) (a b : ObjectState) → P a → P b → P (later_state a b)
later_cases P a b p q = by (nat_lt a.version b.version)
  where
    by : (k : Bool) → P (if k then b else a)
    by true = q
    by false = p

-- what is noted of an include that is answered: what was, the new one, or one that took the new one's state up
joined_cases : (P : Joined → Type 0) (j : Joined) (js : List Joined) → ((i : Joined) → Stands i js → P i) → P j → ((i : Joined) → Stands i
    js → same_join j i ≡ true → P (record i { loaded = later_state i.loaded j.loaded })) → (k : Joined) → Stands k (joined_with j js) → P k
joined_cases P j [] old new both k (inl is) = subst P is new
joined_cases P j [] old new both k (inr i) = absurd i
joined_cases P j (i ∷ is) old new both k at =
    by (same_join j i) refl at (λ more. joined_cases P j is (λ z s. old z (inr s)) new (λ z s. both z (inr s)) k more)
  where
    by : (b : Bool) → same_join j i ≡ b → Stands k (cond b (record i { loaded = later_state i.loaded j.loaded } ∷ is)
        (i ∷ joined_with j is)) → (Stands k (joined_with j is) → P k) → P k
    by true e (inl same) ih = subst P same (both i (inl refl) e)
    by true e (inr more) ih = old k (inr more)
    by false e (inl same) ih = old k (inl same)
    by false e (inr more) ih = ih more

pub loads_are_heard : LoadsAreHeard
loads_are_heard x tops root r q j N have after paths new k t there of on top =
    joined_cases (λ z. z.x ≡ x → is_on z.path t ≡ true → HasLoad N (uid_number t) (packed z.loaded)) j r.joined
    (λ i s e h. have i t (in_to i r.joined s) e h top)
    (λ e h. new e t h top)
    (λ i s e o h.
    let p = and_parts (uid_eq (last_uid j.path) (last_uid i.path)) ((j.x == i.x) && (j.store == i.store)) e in
    let path : i.path ≡ j.path = paths i (in_to i r.joined s) (sym (uid_is (last_uid j.path) (last_uid i.path) p.0)) in
    let object_is : j.x ≡ i.x = test_is j.x i.x (and_parts (j.x == i.x) (j.store == i.store) p.1).0 in
    later_cases (λ z. HasLoad N (uid_number t) (packed z)) i.loaded j.loaded (have i t (in_to i r.joined s) o h top)
    (new (object_is ∙ o) t (ap (λ us. is_on us t) (sym path) ∙ h) top))
    k (in_from k (joined_with j r.joined) (subst (λ js. Contains js k) after there)) of on

-- ---- a commit

-- the latest of several states is one of them
latest_from : (P : ObjectState → Type 0) (js : List Joined) → ((j : Joined) → Stands j js → P j.loaded) → (o : Option ObjectState) →
    ((s : ObjectState) → o ≡ Some s → P s) → (st : ObjectState) → latest_of o js ≡ Some st → P st
latest_from P [] each o had st is = had st is
latest_from P (j ∷ js) each None had st is =
    latest_from P js (λ i s. each i (inr s)) (Some j.loaded) (λ s e. subst P (some_is refl e) (each j (inl refl))) st is
latest_from P (j ∷ js) each (Some s) had st is = latest_from P js (λ i q. each i (inr q)) (Some (later_state s j.loaded))
    (λ z e. subst P (some_is refl e) (later_cases P s j.loaded (had s refl) (each j (inl refl)))) st is

later_packed : (a b : ObjectState) → packed (later_state a b) ≡ newer (packed a) (Some (packed b))
later_packed a b = by (nat_lt a.version b.version)
  where
    by : (k : Bool) → packed (if k then b else a) ≡ (if k then packed b else packed a)
    by true = refl
    by false = refl

module _ (x : ℕ) (tops : Kinds) (root t : Uid) (c : Coord) (r : Root) (S : State) (N : Names) (have : HaveLoads x tops root r N)
    (keeps : KeepsState x root r S) (of_root : S.root (uid_number t) ≡ uid_number root) (top : IsTopOf tops root t) where
  joins_loaded : (j : Joined) → Stands j (joins_on x t r c) → HasLoad N (uid_number t) (packed j.loaded)
  joins_loaded j s =
      let f = in_filter (λ (z : Joined). (z.x == x) && survives t z.path c) j r.joined s in
      let p = and_parts (j.x == x) (survives t j.path c) f.1 in
      have j t (in_to j r.joined f.0) (test_is j.x x p.0) (and_parts (is_on j.path t) (is_merged t j.path c.tree) p.1).0 top

  written_is : option_map packed (at_number x r.states) ≡ written_in S.root (S.root (uid_number t)) S.tops
  written_is = keeps ∙ ap (λ z. written_in S.root z S.tops) (sym of_root)

  pub loaded_now : (st : ObjectState) → loaded_for x t r c ≡ Some st → HasLoaded S N (uid_number t) st
  loaded_now st = by (latest_of None (joins_on x t r c)) (at_number x r.states) refl refl
    where
      load : (s : ObjectState) → latest_of None (joins_on x t r c) ≡ Some s → HasLoad N (uid_number t) (packed s)
      load s e = latest_from (λ z. HasLoad N (uid_number t) (packed z)) (joins_on x t r c) joins_loaded None (λ z f. absurd (cc f)) s e

      newest : (s : ObjectState) (k : Option ObjectState) → at_number x r.states ≡ k →
          newer (packed s) (option_map packed k) ≡ load_of S (uid_number t) (packed s)
      newest s k f = ap (newer (packed s)) (ap (option_map packed) (sym f) ∙ written_is)

      by : (o k : Option ObjectState) → latest_of None (joins_on x t r c) ≡ o → at_number x r.states ≡ k → or_kept_state o k ≡ Some st →
          HasLoaded S N (uid_number t) st
      by None k e f is = absurd (cc is)
      by (Some s) None e f is = let same : s ≡ st = some_is refl is in
          record { state = packed s; load = load s e; newest = ap packed (sym same) ∙ newest s None f }
      by (Some s) (Some k) e f is = let same : later_state s k ≡ st = some_is refl is in
          record { state = packed s; load = load s e; newest = ap packed (sym same) ∙ later_packed s k ∙ newest s (Some k) f }

pub commits_have_loads : CommitsHaveLoads
commits_have_loads x tops root t c r S N st have keeps of_root top is = loaded_now x tops root t c r S N have keeps of_root top st is

-- ---- a decision

among_stays : (x : ℕ) (v : ObjectState) (ss : List ObjectState) (m : List (ℕ × ObjectState)) → ((s : ObjectState) → Among s ss →
    (let u = s.uid in u.num) ≡ x → s ≡ v) → at_number x m ≡ Some v → at_number x (states_after ss m) ≡ Some v
among_stays x v [] m all is = is
among_stays x v (s ∷ ss) m all is = among_stays x v ss (put_number (let u = s.uid in u.num) s m) (λ z i. all z (inr i)) (⊎_elim
    (λ (same : (let u = s.uid in u.num) ≡ x). ap (λ n. at_number n (put_number (let u = s.uid in u.num) s m)) (sym same)
    ∙ put_same (let u = s.uid in u.num) s m ∙ ap Some (all s (inl refl) same))
    (λ other. put_other (let u = s.uid in u.num) x s m other.0 ∙ is) (one_or_two (let u = s.uid in u.num) x))

-- the states that a decision leaves: the one that it changed, or what was there
module _ (x : ℕ) (p : commit.Plan) (objects : (s : ObjectState) → Among s p.changed → s.uid ≡ object (let u = s.uid in u.num))
    (once : (s : ObjectState) → Among s p.changed → s.uid ≡ object x → changed_of x p ≡ Some s) where
  left_by : (ss : List ObjectState) (m : List (ℕ × ObjectState)) → ((s : ObjectState) → Among s ss → Among s p.changed) →
      at_number x (states_after ss m) ≡ or_else (find (λ (s : ObjectState). uid_eq s.uid (object x)) ss) (at_number x m)
  left_by [] m all = refl
  left_by (s ∷ ss) m all =
      by (one_or_two (let u = s.uid in u.num) x) (left_by ss (put_number (let u = s.uid in u.num) s m) (λ z i. all z (inr i)))
    where
      own : (z : ObjectState) → Among z (s ∷ ss) → (let u = z.uid in u.num) ≡ x → z.uid ≡ object x
      own z i e = objects z (all z i) ∙ ap object e

      by : ((let u = s.uid in u.num) ≡ x)
          ⊎ ((is_eq (nat_cmp x (let u = s.uid in u.num)) ≡ false) × (((let u = s.uid in u.num) == x) ≡ false))
          → at_number x (states_after ss (put_number (let u = s.uid in u.num) s m))
          ≡ or_else (find (λ (z : ObjectState). uid_eq z.uid (object x)) ss) (at_number x (put_number (let u = s.uid in u.num) s m))
          → at_number x (states_after ss (put_number (let u = s.uid in u.num) s m))
          ≡ or_else (cond (uid_eq s.uid (object x)) (Some s) (find (λ (z : ObjectState). uid_eq z.uid (object x)) ss)) (at_number x m)
      by (inl same) ih = among_stays x s ss (put_number (let u = s.uid in u.num) s m)
          (λ z i e. some_is (once z (all z (inr i)) (own z (inr i) e)) (once s (all s (inl refl)) (own s (inl refl) same)))
          (ap (λ n. at_number n (put_number (let u = s.uid in u.num) s m)) (sym same) ∙ put_same (let u = s.uid in u.num) s m)
          ∙ sym (ap (λ b. or_else (cond b (Some s) (find (λ (z : ObjectState). uid_eq z.uid (object x)) ss)) (at_number x m))
          (ap (λ u. uid_eq u (object x)) (own s (inl refl) same) ∙ uid_same (object x)))
      by (inr other) ih =
          ih ∙ ap (or_else (find (λ (z : ObjectState). uid_eq z.uid (object x)) ss)) (put_other (let u = s.uid in u.num) x s m other.0)
          ∙ sym (ap (λ b. or_else (cond b (Some s) (find (λ (z : ObjectState). uid_eq z.uid (object x)) ss)) (at_number x m)) (falls_to
          (uid_eq s.uid (object x)) (λ e. never (ap (λ (u : Uid). u.num == x) (uid_is s.uid (object x) e) ∙ test_same x) other.1)))

-- so it is from the plan's states on
pub states_left : (x : ℕ) (p : commit.Plan) → ((s : ObjectState) → Among s p.changed → s.uid ≡ object (let u = s.uid in u.num)) →
    ((s : ObjectState) → Among s p.changed → s.uid ≡ object x → changed_of x p ≡ Some s) → (m : List (ℕ × ObjectState)) →
    at_number x (states_after p.changed m) ≡ or_else (changed_of x p) (at_number x m)
states_left x p objects once m = left_by x p objects once p.changed m (λ s i. i)

packed_else : (a b : Option ObjectState) → option_map packed (or_else a b) ≡ or_else (option_map packed a) (option_map packed b)
packed_else None b = refl
packed_else (Some s) b = refl

pub decisions_keep_states : DecisionsKeepStates
decisions_keep_states x root t p r q S V keeps states roots tops of_root changes =
    ap (λ m. option_map packed (at_number x m)) states
    ∙ ap (option_map packed) (left_by x p changes.objects changes.once p.changed r.states (λ s i. i))
    ∙ packed_else (changed_of x p) (at_number x r.states)
    ∙ (λ i. or_else ((sym changes.writes) i) (keeps i))
    ∙ sym (ap (λ b. if b then or_else (let z = S.plan (uid_number t) in z.writes) (written_in S.root (uid_number root) S.tops) else
    written_in S.root (uid_number root) S.tops) (ap (λ z. z == uid_number root) of_root ∙ test_same (uid_number root)))
    ∙ (λ i. written_in ((sym roots) i) (uid_number root) ((sym tops) i))
