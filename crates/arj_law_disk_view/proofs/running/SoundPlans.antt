-- Plans are tidy, and each step of a commit keeps it sound.
use Rattle.arj_law_parts.proofs.Words
use Words.{◌≡◌, ◌⊎◌, ◌<◌, ℕ, ◌==◌, ◌&&◌, ◌||◌, List, [], ◌∷◌, Bool, true, false, cond, Option, Some, None, refl, sym, ◌∙◌, ap, subst, inl}
use Words.{inr, ⊎_elim, arith, find, filter, map, not, nat_lt, AllByRecursion, flat_map, is_eq, match_ordering, nat_cmp, Ordering, Less}
use Words.{Equal, Greater, ObjectState, Path, Uid, object, uid_eq, uid_is, uid_same, Reply, actor, CommitStep, Stays, Asks, Decides, Aborts}
use Words.{Machine, Voting, Preparing, Confirming, Plan, Used, begin_confirm, begin_prepare, begin_vote, changed_of, further, left_of}
use Words.{marks_store, marks_stores, servers_of, stores_by, stores_left, targets_of, votes_left, with_state, with_states, Coord, Joined}
use Words.{Root, joins_on, later_state, latest_of, loaded_for, objects_in, or_kept_state, plan_for, survives, used_of, at_number}
use Words.{number_set, put_number, with_number, without_number}
use Words.confirmed
use Words.prepared
use Words.voted
use Words.commit
use Words.order
use Rattle.arj_law_disk_view.proofs.Terms
use Terms.{never, some_is, test_is, test_not, test_same, IsUnanswered, Among, AreApart, AreDistinct, IsTidy, Uses, used_at, AreOneChange}
use Terms.{AreChanged, FitsVote, IsOwnRoot, IsSound}
use Rattle.arj_law_disk_view.specs.running.Sound.{AreOneEach}
use Rattle.arj_law_parts.proofs.parts.Numbered.{AreUp, plan_once, set_up}
use Rattle.arj_law_parts.specs.parts.Requests.{AreOnce}

-- ---- what is used once

above_x : (x : ℕ) (u : Used) (us : List Used) → AllByRecursion (λ (v : Used). x < v.x) us → Uses u us → x < u.x
above_x x u [] all none = absurd none
above_x x u (v ∷ vs) all (inl same) = subst (λ (w : Used). x < w.x) same all.0
above_x x u (v ∷ vs) all (inr more) = above_x x u vs all.1 more

less_other : (x y : ℕ) → x < y → (x == y) ≡ false
less_other x y less = test_not x y (λ same. omega (arith, less, same))

more_other : (x y : ℕ) → x < y → (y == x) ≡ false
more_other x y less = test_not y x (λ same. omega (arith, less, same))

none_at : (x : ℕ) (us : List Used) → AllByRecursion (λ (v : Used). x < v.x) us → used_at x us ≡ None
none_at x [] all = refl
none_at x (v ∷ vs) all = ap (λ b. cond b (Some v) (used_at x vs)) (more_other x v.x all.0) ∙ none_at x vs all.1

apart_in : (us : List Used) → AreOnce us → AreApart us
apart_in [] once = tt
apart_in (u ∷ us) once = (none_at u.x us once.0, apart_in us once.1)

found_in : (us : List Used) → AreOnce us → (u : Used) → Uses u us → used_at u.x us ≡ Some u
found_in [] once u none = absurd none
found_in (v ∷ vs) once u (inl same) =
    (λ i. cond (((ap (λ (w : Used). w.x == u.x) same) ∙ test_same u.x) i) (Some v) (used_at u.x vs)) ∙ ap Some same
found_in (v ∷ vs) once u (inr more) =
    ap (λ b. cond b (Some v) (used_at u.x vs)) (less_other v.x u.x (above_x v.x u vs once.0 more)) ∙ found_in vs once.1 u more

-- what holds of each item that is made holds of what is used
pub uses_made : (Q : Used → Type 0) (f : ℕ → Used) → ((x : ℕ) → Q (f x)) → (xs : List ℕ) (u : Used) → Uses u (map f xs) → Q u
uses_made Q f each [] u none = absurd none
uses_made Q f each (x ∷ xs) u (inl same) = subst Q same (each x)
uses_made Q f each (x ∷ xs) u (inr more) = uses_made Q f each xs u more

-- ---- sets of numbers

unlisted : (n : ℕ) (ns : List ℕ) → AllByRecursion (λ (m : ℕ). n < m) ns → order.has ns n ≡ false
unlisted n [] all = refl
unlisted n (m ∷ ms) all = (λ i. more_other n m all.0 i || order.has ms n) ∙ unlisted n ms all.1

distinct_up : (ns : List ℕ) → AreUp ns → AreDistinct ns
distinct_up [] up = tt
distinct_up (n ∷ ns) up = (unlisted n ns up.0, distinct_up ns up.1)

gone : (n : ℕ) (ns : List ℕ) → order.has (without_number n ns) n ≡ false
gone n [] = refl
gone n (m ∷ ms) = by (m == n) refl (gone n ms)
  where
    by : (b : Bool) → (m == n) ≡ b → order.has (without_number n ms) n ≡ false →
        order.has (cond (not b) (m ∷ without_number n ms) (without_number n ms)) n ≡ false
    by true same ih = ih
    by false other ih = (λ i. other i || order.has (without_number n ms) n) ∙ ih

fewer : (k n : ℕ) (ns : List ℕ) → order.has ns n ≡ false → order.has (without_number k ns) n ≡ false
fewer k n [] off = refl
fewer k n (m ∷ ms) off = by (m == n) refl off (m == k) (fewer k n ms)
  where
    by : (b : Bool) → (m == n) ≡ b → (b || order.has ms n) ≡ false → (c : Bool) → (order.has ms n ≡ false →
        order.has (without_number k ms) n ≡ false) → order.has (cond (not c) (m ∷ without_number k ms) (without_number k ms)) n ≡ false
    by true same h c ih = absurd (cc h)
    by false other h true ih = ih h
    by false other h false ih = (λ i. other i || order.has (without_number k ms) n) ∙ ih h

-- ---- maps by number

keys_same : (j k : ℕ) → nat_cmp j k ≡ Equal → j ≡ k
keys_same j k is = grind (arith, is)

pub put_keyed : {X : Type 0} (Q : ℕ → X → Type 0) (k : ℕ) (v : X) (m : List (ℕ × X)) → Q k v → AllByRecursion (λ (e : ℕ × X). Q e.0 e.1) m →
    AllByRecursion (λ (e : ℕ × X). Q e.0 e.1) (put_number k v m)
put_keyed Q k v [] its all = (its, tt)
put_keyed {X} Q k v (e ∷ es) its all = by (nat_cmp k e.0) refl (put_keyed Q k v es its all.1)
  where
    by : (r : Ordering) → nat_cmp k e.0 ≡ r → AllByRecursion (λ (z : ℕ × X). Q z.0 z.1) (put_number k v es) →
        AllByRecursion (λ (z : ℕ × X). Q z.0 z.1) (match_ordering r ((k, v) ∷ e ∷ es) ((e.0, v) ∷ es) (e ∷ put_number k v es))
    by Less is ih = (its, all)
    by Equal is ih = (subst (λ n. Q n v) (keys_same k e.0 is) its, all.1)
    by Greater is ih = (all.0, ih)

at_keyed : {X : Type 0} (Q : ℕ → X → Type 0) (k : ℕ) (v : X) (m : List (ℕ × X)) → AllByRecursion (λ (e : ℕ × X). Q e.0 e.1) m →
    at_number k m ≡ Some v → Q k v
at_keyed Q k v [] all is = absurd (cc is)
at_keyed {X} Q k v (e ∷ es) all is = by (nat_cmp k e.0) refl is (at_keyed Q k v es all.1)
  where
    by : (r : Ordering) → nat_cmp k e.0 ≡ r → cond (is_eq r) (Some e.1) (at_number k es) ≡ Some v → (at_number k es ≡ Some v → Q k v) →
        Q k v
    by Less is h ih = ih h
    by Equal is h ih = let same : e.1 ≡ v = cc h in subst (Q k) same (subst (λ n. Q n e.1) (sym (keys_same k e.0 is)) all.0)
    by Greater is h ih = ih h

-- ---- loaded states

abbrev IsOf : ℕ → ObjectState → Type 0
IsOf x s = s.uid ≡ object x

pub later_of : (x : ℕ) (s t : ObjectState) → IsOf x s → IsOf x t → IsOf x (later_state s t)
later_of x s t a b = by (nat_lt s.version t.version)
  where
    by : (c : Bool) → IsOf x (cond c t s)
    by true = b
    by false = a

module _ (x : ℕ) (top : Uid) (r : Root) (c : Coord) (n : ℕ) (own : IsOwnRoot c.tree n r) where
  abbrev AreOf : List Joined → Type 0
  AreOf js = AllByRecursion (λ (j : Joined). IsOf x j.loaded) js

  joins_of : (js : List Joined) → AllByRecursion (λ (j : Joined). (let s = j.loaded in s.uid) ≡ object j.x) js →
      AreOf (filter (λ (j : Joined). (j.x == x) && survives top j.path c) js)
  joins_of [] all = tt
  joins_of (j ∷ js) all = by (j.x == x) (survives top j.path c) refl (joins_of js all.1)
    where
      by : (a b : Bool) → (j.x == x) ≡ a → AreOf (filter (λ (i : Joined). (i.x == x) && survives top i.path c) js) →
          AreOf (cond (a && b) (j ∷ filter (λ (i : Joined). (i.x == x) && survives top i.path c) js)
          (filter (λ (i : Joined). (i.x == x) && survives top i.path c) js))
      by true true is ih = (all.0 ∙ ap object (test_is j.x x is), ih)
      by true false is ih = ih
      by false b is ih = ih

  latest_found : (s : ObjectState) (js : List Joined) → IsOf x s → AreOf js →
      (t : ObjectState) × (latest_of (Some s) js ≡ Some t) × IsOf x t
  latest_found s [] its all = (s, refl, its)
  latest_found s (j ∷ js) its all = latest_found (later_state s j.loaded) js (later_of x s j.loaded its all.0) all.1

  kept_found : (s : ObjectState) (o : Option ObjectState) → at_number x r.states ≡ o → IsOf x s →
      (t : ObjectState) × (or_kept_state (Some s) o ≡ Some t) × IsOf x t
  kept_found s None is its = (s, refl, its)
  kept_found s (Some w) is its =
      (later_state s w, refl, later_of x s w its (at_keyed (λ n (v : ObjectState). v.uid ≡ object n) x w r.states own.states is))

  -- what is loaded for the object is of it, and is there where an include of it survives
  loads_found : (j : Joined) (js : List Joined) → joins_on x top r c ≡ j ∷ js →
      (t : ObjectState) × (loaded_for x top r c ≡ Some t) × IsOf x t
  loads_found j js is =
      let all : AreOf (j ∷ js) = subst AreOf is (joins_of r.joined own.joined) in
      let l = latest_found j.loaded js all.0 all.1 in
      let k = kept_found l.0 (at_number x r.states) refl l.2 in (
        k.0,
        (λ i. or_kept_state (latest_of None (is i)) (at_number x r.states)) ∙ ap (λ o. or_kept_state o (at_number x r.states)) l.1 ∙ k.1,
        k.2,
      )

  abbrev pub IsRight : Used → Type 0
  IsRight u = AreDistinct u.joins × ((s : ℕ) → order.has u.joins s ≡ true → (st : ObjectState) × (u.loaded ≡ Some st))
      × ((st : ObjectState) → u.loaded ≡ Some st → st.uid ≡ object u.x)

  right : IsRight (used_of top r c x)
  right = by (joins_on x top r c) refl
    where
      by : (js : List Joined) → joins_on x top r c ≡ js → IsRight (used_of top r c x)
      by [] is = (
        distinct_up (number_set (map (λ (j : Joined). j.store) (joins_on x top r c)))
            (set_up (map (λ (j : Joined). j.store) (joins_on x top r c))),
        λ s on. absurd (never on (ap (λ (js : List Joined). order.has (number_set (map (λ (j : Joined). j.store) js)) s) is)),
        λ st there. absurd (cc (sym there ∙ (λ i. or_kept_state (latest_of None (is i)) (at_number x r.states)))),
      )
      by (j ∷ js) is = let l = loads_found j js is in (
        distinct_up (number_set (map (λ (j : Joined). j.store) (joins_on x top r c)))
            (set_up (map (λ (j : Joined). j.store) (joins_on x top r c))),
        λ s on. (l.0, l.1),
        λ st there. subst (IsOf x) (some_is l.1 there) l.2,
      )

-- the plan of a top is tidy
pub plan_tidy : (p : Path) (req : ℕ) (r : Root) (c : Coord) (n : ℕ) → IsOwnRoot c.tree n r → IsTidy (plan_for p req r c)
plan_tidy p req r c n own =
    let once = plan_once p req r c in
    let us : List Used = map (used_of (actor p) r c) (objects_in (actor p) r c) in
    let each : (u : Used) → Uses u us → AreRight u = λ u.
    uses_made AreRight (used_of (actor p) r c) (λ x. right x (actor p) r c n own) (objects_in (actor p) r c) u in
    record {
      apart = apart_in us once;
      once = found_in us once;
      distinct = λ u i. (each u i).0;
      loaded = λ u s i on. (each u i).1 s on;
      of = λ u st i is. (each u i).2 st is;
    }
  where
    AreRight : Used → Type 0
    AreRight u = AreDistinct u.joins × ((s : ℕ) → order.has u.joins s ≡ true → (st : ObjectState) × (u.loaded ≡ Some st))
        × ((st : ObjectState) → u.loaded ≡ Some st → st.uid ≡ object u.x)

-- ---- plans that use the same

tidy_on : (p q : Plan) → q.used ≡ p.used → IsTidy p → IsTidy q
tidy_on p q same t = let r = subst All (sym same) (t.apart, t.once, t.distinct, t.loaded, t.of) in
    record { apart = r.0; once = r.1; distinct = r.2; loaded = r.3; of = r.4 }
  where
    All : List Used → Type 0
    All us = AreApart us × ((u : Used) → Uses u us → used_at u.x us ≡ Some u) × ((u : Used) → Uses u us → AreDistinct u.joins)
        × ((u : Used) (s : ℕ) → Uses u us → order.has u.joins s ≡ true → (st : ObjectState) × (u.loaded ≡ Some st))
        × ((u : Used) (st : ObjectState) → Uses u us → u.loaded ≡ Some st → st.uid ≡ object u.x)

changed_on : (p q : Plan) (left : List ℕ) → q.path ≡ p.path → q.used ≡ p.used → q.changed ≡ p.changed → AreChanged p left →
    AreChanged q left
changed_on p q left path used changed c = record {
  used = λ s i. let u = c.used s (subst (Among s) changed i) in record {
    own = u.own;
    writer = u.writer ∙ ap actor (sym path);
    used = u.used;
    found = ap (λ us. used_at s.uid.num us) used ∙ u.found;
    server = u.server;
  };
  once = subst AreOneEach (sym changed) c.once;
}

-- nothing is changed yet
none_changed : (p : Plan) (left : List ℕ) → p.changed ≡ [] → AreChanged p left
none_changed p left none = record { used = λ s i. absurd (subst (Among s) none i); once = λ s t i. absurd (subst (Among s) none i) }

-- ---- the steps

abbrev pub IsNextSound : CommitStep → Type 0
IsNextSound (Stays m) = IsSound m
IsNextSound (Asks m) = IsSound m
IsNextSound (Decides p) = AreChanged p []
IsNextSound (Aborts why p) = Unit {0}

confirm_sound : (p : Plan) → IsTidy p → AreChanged p [] → (us : List Used) → p.used ≡ us → IsNextSound (begin_confirm us p)
confirm_sound p tidy changed [] is = changed
confirm_sound p tidy changed (u ∷ us) is = record {
  tidy = tidy_on p (further (1 ∷ []) p) refl tidy;
  changed = changed_on p (further (1 ∷ []) p) [] refl refl refl changed;
  way = tt;
  used = u;
  more = us;
  uses = is;
}

-- whoever asks a node uses something
asks_using : (p : Plan) (f : List Used → List ℕ) → f [] ≡ [] → (n : ℕ) (ns : List ℕ) → f p.used ≡ n ∷ ns →
    (u : Used) × (us : List Used) × (p.used ≡ u ∷ us)
asks_using p f none n ns is = by p.used refl
  where
    by : (us : List Used) → p.used ≡ us → (u : Used) × (rest : List Used) × (p.used ≡ u ∷ rest)
    by [] same = absurd (cc (sym none ∙ ap f (sym same) ∙ is))
    by (u ∷ us) same = (u, us, same)

first_on : (n : ℕ) (ns : List ℕ) → order.has (n ∷ ns) n ≡ true
first_on n ns = λ i. test_same n i || order.has ns n

prepare_sound : (p : Plan) → IsTidy p → AreChanged p [] → (ns : List ℕ) → targets_of p ≡ ns → IsNextSound (begin_prepare ns p)
prepare_sound p tidy changed [] is = confirm_sound p tidy changed p.used refl
prepare_sound p tidy changed (s ∷ ss) is =
    let u = asks_using p (λ us. number_set (flat_map (λ (v : Used). stores_by v (changed_of v.x p)) us)) refl s ss is in
    record {
      tidy = tidy_on p (further (s ∷ ss) p) refl tidy;
      changed = changed_on p (further (s ∷ ss) p) [] refl refl refl changed;
      way = (s, first_on s ss);
      used = u.0;
      more = u.1;
      uses = u.2;
    }

vote_sound : (p : Plan) → IsTidy p → IsUnanswered p → p.changed ≡ [] → (ns : List ℕ) → servers_of p ≡ ns → IsNextSound (begin_vote ns p)
vote_sound p tidy new none [] is = prepare_sound p tidy (none_changed p [] none) (targets_of p) refl
vote_sound p tidy new none (s ∷ ss) is =
    let u = asks_using p (λ us. number_set (map (λ (v : Used). v.server) (filter (λ (v : Used). v.called) us))) refl s ss is in
    record {
      tidy = tidy_on p (further (s ∷ ss) p) refl tidy;
      changed = none_changed (further (s ∷ ss) p) (s ∷ ss) none;
      way = record { prepared = new.prepared; excluded = new.excluded };
      used = u.0;
      more = u.1;
      uses = u.2;
    }

votes_sound : (p : Plan) (ns : List ℕ) → IsTidy p → AreChanged p ns → IsUnanswered p → (u : Used) (us : List Used) → p.used ≡ u ∷ us →
    IsNextSound (votes_left ns p)
votes_sound p [] tidy changed new u us is = prepare_sound p tidy changed (targets_of p) refl
votes_sound p (n ∷ ns) tidy changed new u us is = record { tidy = tidy; changed = changed; way = new; used = u; more = us; uses = is }

stores_sound : (p : Plan) (ns : List ℕ) → IsTidy p → AreChanged p [] → (u : Used) (us : List Used) → p.used ≡ u ∷ us →
    IsNextSound (let m = stores_left ns p in m.step)
stores_sound p [] tidy changed u us is = confirm_sound p tidy changed p.used refl
stores_sound p (n ∷ ns) tidy changed u us is =
    record { tidy = tidy; changed = changed; way = (n, first_on n ns); used = u; more = us; uses = is }

pub marks_used : (ns : List ℕ) (p : Plan) → (let q = marks_stores ns p in (q.used ≡ p.used) × (q.changed ≡ p.changed) × (q.path ≡ p.path))
marks_used [] p = (refl, refl, refl)
marks_used (n ∷ ns) p = marks_used ns (marks_store n p)

-- ---- a vote

with_one : (s w : ObjectState) (all : List ObjectState) → Among s (with_state w all) → (w ≡ s) ⊎ Among s all
with_one s w [] i = i
with_one s w (t ∷ ts) i = by (nat_lt t.uid.num w.uid.num) i (with_one s w ts)
  where
    by : (b : Bool) → Among s (cond b (t ∷ with_state w ts) (w ∷ t ∷ ts)) → (Among s (with_state w ts) → (w ≡ s) ⊎ Among s ts) →
        (w ≡ s) ⊎ Among s (t ∷ ts)
    by true (inl same) ih = inr (inl same)
    by true (inr more) ih = ⊎_elim (λ same. inl same) (λ old. inr (inr old)) (ih more)
    by false i ih = i

pub with_all : (s : ObjectState) (new all : List ObjectState) → Among s (with_states new all) → Among s new ⊎ Among s all
with_all s [] all i = inr i
with_all s (w ∷ ws) all i = ⊎_elim (λ more. inl (inr more))
    (λ rest. ⊎_elim (λ same. inl (inl same)) (λ old. inr old) (with_one s w all rest)) (with_all s ws (with_state w all) i)

vote_changed : (p : Plan) (left : List ℕ) (from : ℕ) (states : List ObjectState) → order.has left from ≡ true → AreChanged p left →
    FitsVote p from states → AreChanged (record p { changed = with_states states p.changed }) (without_number from left)
vote_changed p left from states on changed fits = record {
  used = λ s i. ⊎_elim
      (λ new. let f = fits.used s new in record {
        own = f.own;
        writer = f.writer;
        used = f.used;
        found = f.found;
        server = ap (order.has (without_number from left)) f.server ∙ gone from left;
      })
      (λ old. let f = changed.used s old in
      record { own = f.own; writer = f.writer; used = f.used; found = f.found; server = fewer from f.used.server left f.server })
      (with_all s states p.changed i);
  once = λ s t i j same. ⊎_elim
      (λ new.
      ⊎_elim (λ other_new. fits.once s t new other_new same) (λ old. absurd (crosses s t new old same)) (with_all t states p.changed j))
      (λ old. ⊎_elim (λ new. absurd (crosses t s new old (sym same))) (λ other_old. changed.once s t old other_old same)
      (with_all t states p.changed j))
      (with_all s states p.changed i);
}
  where
    crosses : (s t : ObjectState) → Among s states → Among t p.changed → s.uid ≡ t.uid → ⊥
    crosses s t new old same =
        let f = fits.used s new in
        let g = changed.used t old in
        let one : f.used ≡ g.used = some_is f.found (ap (λ (u : Uid). used_at u.num p.used) same ∙ g.found) in
        never on (ap (order.has left) (sym f.server ∙ ap (λ (u : Used). u.server) one) ∙ g.server)

-- ---- what an answer leads to

pub answer_sound : (from : ℕ) (m : Machine) (r : Reply) → IsSound m → order.has (left_of m) from ≡ true →
    ((p : Plan) (left : List ℕ) (states : List ObjectState) → m ≡ Voting p left → r ≡ Reply.Voted (voted.Yes states) →
    FitsVote p from states) → IsNextSound (commit.answered from m r).step
answer_sound from (Voting p left) (Reply.Voted (voted.Yes states)) s on votes =
    let q : Plan = record p { changed = with_states states p.changed } in
    votes_sound q (without_number from left) (tidy_on p q refl s.tidy) (vote_changed p left from states on s.changed
    (votes p left states refl refl)) (let w = s.way in record { prepared = w.prepared; excluded = w.excluded }) s.used s.more s.uses
answer_sound from (Voting p left) (Reply.Voted (voted.Changed w)) s on votes = tt
answer_sound from (Voting p left) (Reply.Bound r) s on votes = s
answer_sound from (Voting p left) (Reply.Loaded r) s on votes = s
answer_sound from (Voting p left) (Reply.Activated r) s on votes = s
answer_sound from (Voting p left) (Reply.Noted r) s on votes = s
answer_sound from (Voting p left) (Reply.Invoked r) s on votes = s
answer_sound from (Voting p left) (Reply.Prepared r) s on votes = s
answer_sound from (Voting p left) (Reply.Confirmed r) s on votes = s
answer_sound from (Preparing p left) (Reply.Prepared prepared.Yes) s on votes =
    let q : Plan = record p { prepared = with_number from p.prepared } in
    stores_sound q (without_number from left) (tidy_on p q refl s.tidy) (changed_on p q [] refl refl refl s.changed) s.used s.more s.uses
answer_sound from (Preparing p left) (Reply.Prepared (prepared.InDoubt x h)) s on votes =
    stores_sound (marks_store from p) (without_number from left) (tidy_on p (marks_store from p) refl s.tidy)
    (changed_on p (marks_store from p) [] refl refl refl s.changed) s.used s.more s.uses
answer_sound from (Preparing p left) (Reply.Prepared (prepared.Old x v)) s on votes = tt
answer_sound from (Preparing p left) (Reply.Bound r) s on votes = s
answer_sound from (Preparing p left) (Reply.Loaded r) s on votes = s
answer_sound from (Preparing p left) (Reply.Activated r) s on votes = s
answer_sound from (Preparing p left) (Reply.Noted r) s on votes = s
answer_sound from (Preparing p left) (Reply.Invoked r) s on votes = s
answer_sound from (Preparing p left) (Reply.Voted r) s on votes = s
answer_sound from (Preparing p left) (Reply.Confirmed r) s on votes = s
answer_sound from (Confirming p) (Reply.Confirmed confirmed.Yes) s on votes =
    changed_on p (record p { confirmed = true }) [] refl refl refl s.changed
answer_sound from (Confirming p) (Reply.Confirmed (confirmed.Conflict h m)) s on votes = tt
answer_sound from (Confirming p) (Reply.Confirmed (confirmed.Changed w)) s on votes = tt
answer_sound from (Confirming p) (Reply.Confirmed (confirmed.NoStores x)) s on votes = tt
answer_sound from (Confirming p) (Reply.Confirmed (confirmed.Listed x n)) s on votes = tt
answer_sound from (Confirming p) (Reply.Bound r) s on votes = s
answer_sound from (Confirming p) (Reply.Loaded r) s on votes = s
answer_sound from (Confirming p) (Reply.Activated r) s on votes = s
answer_sound from (Confirming p) (Reply.Noted r) s on votes = s
answer_sound from (Confirming p) (Reply.Invoked r) s on votes = s
answer_sound from (Confirming p) (Reply.Voted r) s on votes = s
answer_sound from (Confirming p) (Reply.Prepared r) s on votes = s

pub given_up_sound : (m : Machine) → IsSound m → IsNextSound (commit.given_up m).step
given_up_sound (Voting p left) s = tt
given_up_sound (Preparing p left) s = let u = marks_used left p in stores_sound (marks_stores left p) []
    (tidy_on p (marks_stores left p) u.0 s.tidy) (changed_on p (marks_stores left p) [] u.2 u.0 u.1 s.changed) s.used s.more (u.0 ∙ s.uses)
given_up_sound (Confirming p) s = tt

pub start_sound : (p : Path) (req : ℕ) (r : Root) (c : Coord) (n : ℕ) → IsOwnRoot c.tree n r →
    IsNextSound (let m = commit.start (plan_for p req r c) in m.step)
start_sound p req r c n own = vote_sound (plan_for p req r c) (plan_tidy p req r c n own) (record { prepared = refl; excluded = refl }) refl
    (servers_of (plan_for p req r c)) refl

-- ---- each object's change

found_one : (x : ℕ) (st : ObjectState) (all : List ObjectState) → Among st all → st.uid ≡ object x →
    (t : ObjectState) × (find (λ (s : ObjectState). uid_eq s.uid (object x)) all ≡ Some t) × Among t all × (t.uid ≡ object x)
found_one x st [] none is = absurd none
found_one x st (t ∷ ts) i is = by (uid_eq t.uid (object x)) refl i (found_one x st ts)
  where
    by : (b : Bool) → uid_eq t.uid (object x) ≡ b → Among st (t ∷ ts) → (Among st ts → st.uid ≡ object x →
        (w : ObjectState) × (find (λ (s : ObjectState). uid_eq s.uid (object x)) ts ≡ Some w) × Among w ts × (w.uid ≡ object x))
        → (w : ObjectState) × (cond b (Some t) (find (λ (s : ObjectState). uid_eq s.uid (object x)) ts) ≡ Some w) × Among w (t ∷ ts)
        × (w.uid ≡ object x)
    by true same i ih = (t, refl, inl refl, uid_is t.uid (object x) same)
    by false other (inl same) ih = absurd
        (never (ap (λ (s : ObjectState). uid_eq s.uid (object x)) same ∙ ap (λ u. uid_eq u (object x)) is ∙ uid_same (object x)) other)
    by false other (inr more) ih = let r = ih more is in (r.0, r.1, inr r.2, r.3)

pub one_change : (p : Plan) (left : List ℕ) → AreChanged p left → AreOneChange p
one_change p left c x st i is =
    let f = found_one x st p.changed i is in
    let u = c.used st i in
    record {
      found = f.1 ∙ ap Some (c.once f.0 st f.2 i (f.3 ∙ sym is));
      used = u.used;
      uses = ap (λ (w : Uid). used_at w.num p.used) (sym is) ∙ u.found;
    }
