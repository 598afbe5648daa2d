-- What a commit under way has heard of the stores that it includes, and what it asked them to prepare: each said Yes, or is marked for the
-- object, or hasn't answered; and each was asked to prepare a state of the object.
use Rattle.arj_law_parts.proofs.Words
use Words.{arith, ◌≡◌, ◌⊎◌, ◌∙◌, ◌==◌, ◌&&◌, ◌||◌, ◌++◌, ℕ, List, [], ◌∷◌, Bool, true, false, cond, map, Option, Some, None, refl, sym, ap}
use Words.{subst, inl, inr, ⊎_elim, eqb-true, IfSome, is_some, AllByRecursion, cons_option, filter_map, list_any, or_cases, uid_is}
use Words.{In as Among, in_find, Head, ObjectState, Path, Uid, asks, object, uid_eq, Reply, actor, CommitStep, Confirming, Machine, Plan}
use Words.{Preparing, Used, Voting, begin_confirm, begin_prepare, begin_vote, changed_of, is_marked, marks_at, marks_store, marks_stores}
use Words.{plan_of, servers_of, state_by, state_for, states_for, stores_by, targets_of, with_marks, with_mark, Grants, Marks, Coord, Root}
use Words.{plan_for, has, with_number, without_number, Post}
use Words.ask
use Words.confirmed
use Words.prepared
use Words.voted
use Words.commit
use Rattle.arj_law_promise.proofs.Terms.{flat_map, In, OwnOf, Fits, has_set, has_with, IsNext}
use Rattle.arj_law_disk_view.specs.running.States.{PlanIsSo}
use Rattle.arj_law_promise.proofs.settling.Yeses.{Loads, SaidYes, left_cases, mark_has, marks_keep, plan_loads}

-- ---- what was sent

-- node k sent a Confirm of the top by which this store of the object is included
abbrev pub IncludedFrom : ℕ → List Post → Uid → ℕ → ℕ → Type 0
IncludedFrom k sent u x n = (p : Post) × In p sent × (p.from ≡ k) × (h : Head) × (g : Grants) × (e : Marks) × (i : Marks)
    × (asks p.message ≡ Some (h, ask.Confirm g e i)) × (actor h.path ≡ u) × Among (x, n) i

-- node k asked this node to prepare these states of the top
abbrev pub PreparedFrom : ℕ → List Post → Uid → ℕ → List ObjectState → Type 0
PreparedFrom k sent u n states =
    (p : Post) × In p sent × (p.from ≡ k) × (p.to ≡ n) × (h : Head) × (asks p.message ≡ Some (h, ask.Prepare states)) × (actor h.path ≡ u)

-- one of the states is of the object with this number
abbrev pub names_number : ℕ → List ObjectState → Bool
names_number x states = list_any (λ (st : ObjectState). st.uid.num == x) states

-- ---- what was heard

-- the store said Yes, or is marked for the object
abbrev pub WasJoined : List Post → Uid → Plan → ℕ → ℕ → Type 0
WasJoined sent u p x n = ((has p.prepared n ≡ true) × SaidYes sent n u) ⊎ (is_marked x n p ≡ true)

-- so it is with each store that is included
abbrev pub EachJoin : Plan → (ℕ → ℕ → Type 0) → Type 0
EachJoin p R = (v : Used) → Among v p.used → (n : ℕ) → has v.joins n ≡ true → R v.x n

-- what is included was loaded, as a state of the object
abbrev pub Owns : Plan → Type 0
Owns p = (v : Used) → Among v p.used → (n : ℕ) → has v.joins n ≡ true → (st : ObjectState) × (v.loaded ≡ Some st) × (st.uid.num ≡ v.x)

-- loaded states are of their objects
abbrev pub AreOwn : Plan → Type 0
AreOwn p = (v : Used) → Among v p.used → (st : ObjectState) → v.loaded ≡ Some st → st.uid.num ≡ v.x

-- whoever was asked to prepare was asked for a state of each object that it is included for
abbrev pub AreNamed : ℕ → List Post → Uid → Plan → Type 0
AreNamed k sent u p = EachJoin p (λ x n. (states : List ObjectState) → PreparedFrom k sent u n states → names_number x states ≡ true)

-- Nobody was asked while the servers vote, and naming wasn't before the stores have answered.
abbrev pub Joins : ℕ → List Post → Uid → Machine → Type 0
Joins k sent u (Voting p left) =
    Loads p × ((n : ℕ) (states : List ObjectState) → PreparedFrom k sent u n states → ⊥) × ((x n : ℕ) → IncludedFrom k sent u x n → ⊥)
Joins k sent u (Preparing p left) = Loads p × EachJoin p (λ x n. (has left n ≡ true) ⊎ WasJoined sent u p x n) × AreNamed k sent u p
    × ((x n : ℕ) → IncludedFrom k sent u x n → ⊥)
Joins k sent u (Confirming p) =
    EachJoin p (WasJoined sent u p) × AreNamed k sent u p × ((x n : ℕ) → IncludedFrom k sent u x n → has p.prepared n ≡ true)

all_in : {A : Type 0} (Q : A → Type 0) (a : A) (xs : List A) → AllByRecursion Q xs → Among a xs → Q a
all_in Q a [] all i = absurd i
all_in Q a (x ∷ xs) all (inl same) = subst Q same all.0
all_in Q a (x ∷ xs) all (inr i) = all_in Q a xs all.1 i

pub owns_of : (p : Plan) → Loads p → AreOwn p → Owns p
owns_of p loads own v i n on =
    by v.loaded refl (all_in (λ (w : Used). (s : ℕ) → has w.joins s ≡ true → is_some w.loaded ≡ true) v p.used loads i n on)
  where
    by : (o : Option ObjectState) → v.loaded ≡ o → is_some o ≡ true → (st : ObjectState) × (v.loaded ≡ Some st) × (st.uid.num ≡ v.x)
    by None is some = absurd (cc some)
    by (Some st) is some = (st, is, own v i st is)

pub plan_own : (F : Fits) (p : Plan) → PlanIsSo F p → AreOwn p
plan_own F p so v i st is = (subst (λ o. IfSome o (OwnOf (let z = F in z.kept) v.x)) is
    (all_in (λ (w : Used). IfSome w.loaded (OwnOf (let z = F in z.kept) w.x)) v p.used so.used i)).1

-- ---- what a store is sent

in_mapped : {A B : Type 0} (f : A → Option B) (a : A) (b : B) (xs : List A) → Among a xs → f a ≡ Some b → Among b (filter_map f xs)
in_mapped f a b [] i is = absurd i
in_mapped {A} {B} f a b (x ∷ xs) (inl same) is = subst (λ o. Among b (cons_option o (filter_map f xs))) (sym (ap f same ∙ is)) (inl refl)
in_mapped {A} {B} f a b (x ∷ xs) (inr i) is = by (f x) (in_mapped f a b xs i is)
  where
    by : (o : Option B) → Among b (filter_map f xs) → Among b (cons_option o (filter_map f xs))
    by None ih = ih
    by (Some c) ih = inr ih

same_number : (n : ℕ) → (n == n) ≡ true
same_number n = grind arith

second : (a b : Bool) → b ≡ true → (a || b) ≡ true
second true b e = refl
second false b e = e

-- a state of each object that the store is included for
sent_state : (n : ℕ) (p : Plan) (v : Used) → has v.joins n ≡ true → (loads : (st : ObjectState) × (v.loaded ≡ Some st) × (st.uid.num ≡ v.x))
    → (st : ObjectState) × (state_for n p v ≡ Some st) × (st.uid.num ≡ v.x)
sent_state n p v on loads = by (changed_of v.x p) refl
  where
    by : (o : Option ObjectState) → changed_of v.x p ≡ o → (st : ObjectState) × (state_by n v o ≡ Some st) × (st.uid.num ≡ v.x)
    by None none = (loads.0, ap (λ b. cond b v.loaded None) on ∙ loads.1, loads.2)
    by (Some st) found = (
      st,
      ap (λ b. cond b (Some st) None) (second (has v.stores n) (has v.joins n) on),
      ap (λ (u : Uid). u.num) (uid_is st.uid (object v.x) (in_find (λ (s : ObjectState). uid_eq s.uid (object v.x)) st p.changed found).1),
    )

names_one : (x : ℕ) (st : ObjectState) (states : List ObjectState) → Among st states → st.uid.num ≡ x → names_number x states ≡ true
names_one x st [] i is = absurd i
names_one x st (s ∷ ss) (inl same) is =
    ap (λ b. b || names_number x ss) (ap (λ (z : ObjectState). z.uid.num == x) same ∙ ap (λ y. y == x) is ∙ same_number x)
names_one x st (s ∷ ss) (inr i) is = second (s.uid.num == x) (names_number x ss) (names_one x st ss i is)

pub sent_names : (n : ℕ) (p : Plan) → Owns p → EachJoin p (λ x m. m ≡ n → names_number x (states_for n p) ≡ true)
sent_names n p owns v i m on same =
    let on_n = ap (has v.joins) (sym same) ∙ on in
    let z = sent_state n p v on_n (owns v i n on_n) in
    names_one v.x z.0 (states_for n p) (in_mapped (state_for n p) v z.0 p.used i z.1) z.2

-- ---- marks

marks_have : (f : ℕ × ℕ → Bool) (m : ℕ × ℕ) (ms ks : List (ℕ × ℕ)) → Among m ms → f m ≡ true → list_any f (with_marks ms ks) ≡ true
marks_have f m [] ks i is = absurd i
marks_have f m (k ∷ ms) ks (inl same) is = marks_keep f ms (with_mark k ks) (mark_has f k ks (ap f same ∙ is))
marks_have f m (k ∷ ms) ks (inr i) is = marks_have f m ms (with_mark k ks) i is

in_map_to : {A B : Type 0} (f : A → B) (a : A) (xs : List A) → Among a xs → Among (f a) (map f xs)
in_map_to f a [] i = absurd i
in_map_to f a (x ∷ xs) (inl same) = inl (ap f same)
in_map_to f a (x ∷ xs) (inr i) = inr (in_map_to f a xs i)

-- the store is marked for each object that it is included for
one_marked : (n : ℕ) (p : Plan) → Owns p → EachJoin p (λ x m. m ≡ n → is_marked x m (marks_store n p) ≡ true)
one_marked n p owns v i m on same =
    let on_n = ap (has v.joins) (sym same) ∙ on in
    let z = sent_state n p v on_n (owns v i n on_n) in
    let st = z.0 in
    marks_have (λ (k : ℕ × ℕ). (k.0 == v.x) && (k.1 == m)) (st.uid.num, n) (marks_at n p) p.excluded
    (in_map_to {A = ObjectState} {B = ℕ × ℕ} (λ s. (s.uid.num, n)) st (states_for n p) (in_mapped (state_for n p) v st p.used i z.1))
    (λ j. (ap (λ y. y == v.x) z.2 ∙ same_number v.x) j && (ap (λ y. n == y) same ∙ same_number n) j)

marked_one : (from x n : ℕ) (p : Plan) → is_marked x n p ≡ true → is_marked x n (marks_store from p) ≡ true
marked_one from x n p is = marks_keep (λ (k : ℕ × ℕ). (k.0 == x) && (k.1 == n)) (marks_at from p) p.excluded is

marked_all : (ns : List ℕ) (x n : ℕ) (p : Plan) → is_marked x n p ≡ true → is_marked x n (marks_stores ns p) ≡ true
marked_all [] x n p is = is
marked_all (m ∷ ns) x n p is = marked_all ns x n (marks_store m p) (marked_one m x n p is)

all_marked : (ns : List ℕ) (p : Plan) → Owns p → EachJoin p (λ x n. has ns n ≡ true → is_marked x n (marks_stores ns p) ≡ true)
all_marked [] p owns v i n on there = absurd (cc there)
all_marked (m ∷ ns) p owns v i n on there = ⊎_elim
    (λ same. marked_all ns v.x n (marks_store m p) (one_marked m p owns v i n on (sym (eqb-true m n same))))
    (λ rest. all_marked ns (marks_store m p) owns v i n on rest)
    (or_cases (m == n) (has ns n) there)

-- ---- targets

has_left : (xs ys : List ℕ) (n : ℕ) → has xs n ≡ true → has (xs ++ ys) n ≡ true
has_left [] ys n e = absurd (cc e)
has_left (x ∷ xs) ys n e = by (x == n) e (has_left xs ys n)
  where
    by : (b : Bool) → (b || has xs n) ≡ true → (has xs n ≡ true → has (xs ++ ys) n ≡ true) → (b || has (xs ++ ys) n) ≡ true
    by true f ih = refl
    by false f ih = ih f

has_right : (xs ys : List ℕ) (n : ℕ) → has ys n ≡ true → has (xs ++ ys) n ≡ true
has_right [] ys n e = e
has_right (x ∷ xs) ys n e = second (x == n) (has (xs ++ ys) n) (has_right xs ys n e)

in_flat : (f : Used → List ℕ) (v : Used) (n : ℕ) (us : List Used) → Among v us → has (f v) n ≡ true → has (flat_map f us) n ≡ true
in_flat f v n [] i is = absurd i
in_flat f v n (u ∷ us) (inl same) is = has_left (f u) (flat_map f us) n (ap (λ z. has (f z) n) same ∙ is)
in_flat f v n (u ∷ us) (inr i) is = has_right (f u) (flat_map f us) n (in_flat f v n us i is)

-- whoever is included is a target
are_targets : (p : Plan) → EachJoin p (λ x n. has (targets_of p) n ≡ true)
are_targets p v i n on = has_set (flat_map (λ (u : Used). stores_by u (changed_of u.x p)) p.used) n
    (in_flat (λ (u : Used). stores_by u (changed_of u.x p)) v n p.used i (by (changed_of v.x p)))
  where
    by : (o : Option ObjectState) → has (stores_by v o) n ≡ true
    by None = on
    by (Some st) = has_right v.stores v.joins n on

-- ---- the steps of a commit

module _ (k : ℕ) (sent : List Post) (u : Uid) where
  abbrev Next : CommitStep → Type 0
  Next s = IsNext (Joins k sent) u s

  abbrev NoConfirm : Type 0
  NoConfirm = (x n : ℕ) → IncludedFrom k sent u x n → ⊥

  abbrev NoPrepare : Type 0
  NoPrepare = (n : ℕ) (states : List ObjectState) → PreparedFrom k sent u n states → ⊥

  confirm_next : (us : List Used) (q : Plan) → EachJoin q (WasJoined sent u q) → AreNamed k sent u q → NoConfirm → Next (begin_confirm us q)
  confirm_next [] q each named unsaid = tt
  confirm_next (x ∷ us) q each named unsaid = (each, named, λ y n i. absurd (unsaid y n i))

  prepare_next : (ns : List ℕ) (q : Plan) → Loads q → EachJoin q (λ x n. has ns n ≡ true) → NoPrepare → NoConfirm →
      Next (begin_prepare ns q)
  prepare_next [] q loads each none unsaid =
      confirm_next q.used q (λ v i n on. absurd (cc (each v i n on))) (λ v i n on states asked. absurd (none n states asked)) unsaid
  prepare_next (s ∷ ss) q loads each none unsaid =
      (loads, (λ v i n on. inl (each v i n on)), (λ v i n on states asked. absurd (none n states asked)), unsaid)

  votes_next : (ns : List ℕ) (q : Plan) → Loads q → NoPrepare → NoConfirm → Next (commit.votes_left ns q)
  votes_next [] q loads none unsaid = prepare_next (targets_of q) q loads (are_targets q) none unsaid
  votes_next (s ∷ ss) q loads none unsaid = (loads, none, unsaid)

  stores_next : (ns : List ℕ) (q : Plan) → Loads q → EachJoin q (λ x n. (has ns n ≡ true) ⊎ WasJoined sent u q x n) → AreNamed k sent u q →
      NoConfirm → Next (commit.stores_left ns q).step
  stores_next [] q loads each named unsaid =
      confirm_next q.used q (λ v i n on. ⊎_elim (λ there. absurd (cc there)) (λ heard. heard) (each v i n on)) named unsaid
  stores_next (s ∷ ss) q loads each named unsaid = (loads, each, named, unsaid)

  -- an answer
  pub answer_joins : (from : ℕ) (m : Machine) (r : Reply) → (r ≡ Reply.Prepared prepared.Yes → SaidYes sent from u) → AreOwn (plan_of m) →
      Joins k sent u m → Next (commit.answered from m r).step
  answer_joins from (Voting p left) (Reply.Voted (voted.Yes states)) said own j =
      votes_next (without_number from left) (record p { changed = commit.with_states states p.changed }) j.0 j.1 j.2
  answer_joins from (Voting p left) (Reply.Voted (voted.Changed w)) said own j = tt
  answer_joins from (Voting p left) (Reply.Bound r) said own j = j
  answer_joins from (Voting p left) (Reply.Loaded r) said own j = j
  answer_joins from (Voting p left) (Reply.Activated r) said own j = j
  answer_joins from (Voting p left) (Reply.Noted r) said own j = j
  answer_joins from (Voting p left) (Reply.Invoked r) said own j = j
  answer_joins from (Voting p left) (Reply.Prepared r) said own j = j
  answer_joins from (Voting p left) (Reply.Confirmed r) said own j = j
  answer_joins from (Preparing p left) (Reply.Prepared prepared.Yes) said own j =
      stores_next (without_number from left) (record p { prepared = with_number from p.prepared }) j.0
      (λ v i n on. ⊎_elim
      (λ there. ⊎_elim (λ same. inr (inl (has_with from p.prepared n (inl same), subst (λ z. SaidYes sent z u) (sym same) (said refl))))
      (λ rest. inl rest) (left_cases k sent u from n left there))
      (λ heard. inr (⊎_elim (λ old. inl (has_with from p.prepared n (inr old.0), old.1)) (λ marked. inr marked) heard)) (j.1 v i n on)) j.2
      j.3
  answer_joins from (Preparing p left) (Reply.Prepared (prepared.InDoubt x h)) said own j =
      stores_next (without_number from left) (marks_store from p) j.0
      (λ v i n on. ⊎_elim
      (λ there. ⊎_elim (λ same. inr (inr (one_marked from p (owns_of p j.0 own) v i n on same))) (λ rest. inl rest)
      (left_cases k sent u from n left there))
      (λ heard. inr (⊎_elim (λ old. inl old) (λ marked. inr (marked_one from v.x n p marked)) heard)) (j.1 v i n on)) j.2 j.3
  answer_joins from (Preparing p left) (Reply.Prepared (prepared.Old x w)) said own j = tt
  answer_joins from (Preparing p left) (Reply.Bound r) said own j = j
  answer_joins from (Preparing p left) (Reply.Loaded r) said own j = j
  answer_joins from (Preparing p left) (Reply.Activated r) said own j = j
  answer_joins from (Preparing p left) (Reply.Noted r) said own j = j
  answer_joins from (Preparing p left) (Reply.Invoked r) said own j = j
  answer_joins from (Preparing p left) (Reply.Voted r) said own j = j
  answer_joins from (Preparing p left) (Reply.Confirmed r) said own j = j
  answer_joins from (Confirming p) (Reply.Confirmed confirmed.Yes) said own j = tt
  answer_joins from (Confirming p) (Reply.Confirmed (confirmed.Conflict h m)) said own j = tt
  answer_joins from (Confirming p) (Reply.Confirmed (confirmed.Changed w)) said own j = tt
  answer_joins from (Confirming p) (Reply.Confirmed (confirmed.NoStores x)) said own j = tt
  answer_joins from (Confirming p) (Reply.Confirmed (confirmed.Listed x s)) said own j = tt
  answer_joins from (Confirming p) (Reply.Bound r) said own j = j
  answer_joins from (Confirming p) (Reply.Loaded r) said own j = j
  answer_joins from (Confirming p) (Reply.Activated r) said own j = j
  answer_joins from (Confirming p) (Reply.Noted r) said own j = j
  answer_joins from (Confirming p) (Reply.Invoked r) said own j = j
  answer_joins from (Confirming p) (Reply.Voted r) said own j = j
  answer_joins from (Confirming p) (Reply.Prepared r) said own j = j

  marks_loads : (ns : List ℕ) (p : Plan) → Loads p → Loads (marks_stores ns p)
  marks_loads [] p loads = loads
  marks_loads (m ∷ ns) p loads = marks_loads ns (marks_store m p) loads

  marks_used : (ns : List ℕ) (p : Plan) → (marks_stores ns p).used ≡ p.used
  marks_used [] p = refl
  marks_used (m ∷ ns) p = marks_used ns (marks_store m p)

  marks_prepared : (ns : List ℕ) (p : Plan) → (marks_stores ns p).prepared ≡ p.prepared
  marks_prepared [] p = refl
  marks_prepared (m ∷ ns) p = marks_prepared ns (marks_store m p)

  pub giveup_joins : (m : Machine) → AreOwn (plan_of m) → Joins k sent u m → Next (commit.given_up m).step
  giveup_joins (Voting p left) own j = tt
  giveup_joins (Preparing p left) own j = stores_next [] (marks_stores left p) (marks_loads left p j.0)
      (λ v i n on. ⊎_elim (λ there. inr (inr (all_marked left p (owns_of p j.0 own) v (was v i) n on there))) (λ heard. inr (⊎_elim
      (λ old. inl (ap (λ ns. has ns n) (marks_prepared left p) ∙ old.0, old.1)) (λ marked. inr (marked_all left v.x n p marked)) heard))
      (j.1 v (was v i) n on))
      (λ v i n on. j.2 v (was v i) n on) j.3
    where
      was : (v : Used) → Among v (marks_stores left p).used → Among v p.used
      was v i = subst (Among v) (marks_used left p) i
  giveup_joins (Confirming p) own j = tt

  -- as a commit begins nobody was asked
  pub start_joins : (path : Path) (req : ℕ) (r : Root) (c : Coord) → NoPrepare → NoConfirm →
      Next (commit.start (plan_for path req r c)).step
  start_joins path req r c none unsaid = by (servers_of (plan_for path req r c))
    where
      by : (ns : List ℕ) → Next (begin_vote ns (plan_for path req r c))
      by [] = prepare_next (targets_of (plan_for path req r c)) (plan_for path req r c) (plan_loads path req r c)
          (are_targets (plan_for path req r c)) none unsaid
      by (s ∷ ss) = (plan_loads path req r c, none, unsaid)
