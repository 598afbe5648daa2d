-- What a commit under way has heard of the stores that it asked: each said Yes, or is marked, or hasn't answered.
use Rattle.arj_law_parts.proofs.Words
use Words.{arith, ◌≡◌, ◌≢◌, ◌⊎◌, ◌∙◌, ◌==◌, ◌&&◌, ◌||◌, ◌++◌, ℕ, List, [], ◌∷◌, Bool, true, false, cond, map, not, Option, Some, None, refl}
use Words.{sym, ap, subst, inl, inr, ⊎_elim, eqb-true, is_some, nat_lt, AllByRecursion, cons_option, filter_map, list_any, match_ordering}
use Words.{nat_cmp, Ordering, Less, Equal, Greater, or_cases, Asked, Head, ObjectState, Path, Uid, asks, Reply, actor, answers, CommitStep}
use Words.{Confirming, Machine, Plan, Preparing, Used, Voting, begin_confirm, begin_prepare, begin_vote, left_of, marks_at, marks_store}
use Words.{marks_stores, servers_of, state_by, state_for, states_for, stores_by, targets_of, with_mark, with_marks, Coord, Joined, Root}
use Words.{joins_on, later_state, latest_of, objects_in, or_kept_state, plan_for, used_of, at_number, has, number_set, with_number}
use Words.{without_number, Post}
use Words.ask
use Words.confirmed
use Words.prepared
use Words.voted
use Words.commit
use Rattle.arj_law_promise.proofs.Terms.{flat_map, In, has_without, has_with, IsNext}

-- ---- what was sent

-- node k sent a Prepare of the action to this node
abbrev pub AskedFrom : ℕ → List Post → Uid → ℕ → Type 0
AskedFrom k sent u n = (p : Post) × In p sent × (p.from ≡ k) × (p.to ≡ n) × (h : Head) × (states : List ObjectState)
    × (asks p.message ≡ Some (h, ask.Prepare states)) × (actor h.path ≡ u)

-- the node answered it with Yes
abbrev pub SaidYes : List Post → ℕ → Uid → Type 0
SaidYes sent n u =
    (p : Post) × In p sent × (p.from ≡ n) × (a : Asked) × (answers p.message ≡ Some (a, Reply.Prepared prepared.Yes)) × (a.act ≡ u)

-- ---- what was heard

-- the store is marked, for some object
abbrev pub IsMarked : Plan → ℕ → Type 0
IsMarked p n = list_any (λ (m : ℕ × ℕ). m.1 == n) p.excluded ≡ true

-- it said Yes, or is marked
abbrev pub WasHeard : List Post → Uid → Plan → ℕ → Type 0
WasHeard sent u p n = ((has p.prepared n ≡ true) × SaidYes sent n u) ⊎ IsMarked p n

-- what is included somewhere was loaded
abbrev pub Loads : Plan → Type 0
Loads p = AllByRecursion (λ (u : Used). (s : ℕ) → has u.joins s ≡ true → is_some u.loaded ≡ true) p.used

-- Nobody was asked while the servers vote; then targets of the plan; and once all have answered, each was heard.
abbrev pub Votes : ℕ → List Post → Uid → Machine → Type 0
Votes k sent u (Voting p left) = Loads p × ((n : ℕ) → AskedFrom k sent u n → ⊥)
Votes k sent u (Preparing p left) = Loads p × ((n : ℕ) → has left n ≡ true → has (targets_of p) n ≡ true)
    × ((n : ℕ) → AskedFrom k sent u n → (has left n ≡ true) ⊎ WasHeard sent u p n)
Votes k sent u (Confirming p) = (n : ℕ) → AskedFrom k sent u n → WasHeard sent u p n

-- ---- marks

mark_keeps : (f : ℕ × ℕ → Bool) (m : ℕ × ℕ) (ks : List (ℕ × ℕ)) → list_any f ks ≡ true → list_any f (with_mark m ks) ≡ true
mark_keeps f m [] is = absurd (cc is)
mark_keeps f m (k ∷ ks) is = by (nat_lt k.0 m.0 || ((k.0 == m.0) && nat_lt k.1 m.1)) (mark_keeps f m ks)
  where
    second : (a b : Bool) → b ≡ true → (a || b) ≡ true
    second true b e = refl
    second false b e = e

    first : (a : Bool) → (a || list_any f ks) ≡ true → (list_any f ks ≡ true → list_any f (with_mark m ks) ≡ true) →
        (a || list_any f (with_mark m ks)) ≡ true
    first true e ih = refl
    first false e ih = ih e

    by : (b : Bool) → (list_any f ks ≡ true → list_any f (with_mark m ks) ≡ true) →
        list_any f (cond b (k ∷ with_mark m ks) (m ∷ k ∷ ks)) ≡ true
    by true ih = first (f k) is ih
    by false ih = second (f m) (f k || list_any f ks) is

pub mark_has : (f : ℕ × ℕ → Bool) (m : ℕ × ℕ) (ks : List (ℕ × ℕ)) → f m ≡ true → list_any f (with_mark m ks) ≡ true
mark_has f m [] is = ap (λ b. b || false) is
mark_has f m (k ∷ ks) is = by (nat_lt k.0 m.0 || ((k.0 == m.0) && nat_lt k.1 m.1)) (mark_has f m ks is)
  where
    second : (a b : Bool) → b ≡ true → (a || b) ≡ true
    second true b e = refl
    second false b e = e

    by : (b : Bool) → list_any f (with_mark m ks) ≡ true → list_any f (cond b (k ∷ with_mark m ks) (m ∷ k ∷ ks)) ≡ true
    by true ih = second (f k) (list_any f (with_mark m ks)) ih
    by false ih = ap (λ b. b || (f k || list_any f ks)) is

pub marks_keep : (f : ℕ × ℕ → Bool) (ms ks : List (ℕ × ℕ)) → list_any f ks ≡ true → list_any f (with_marks ms ks) ≡ true
marks_keep f [] ks is = is
marks_keep f (m ∷ ms) ks is = marks_keep f ms (with_mark m ks) (mark_keeps f m ks is)

some_marked : (n : ℕ) (states : List ObjectState) (ks : List (ℕ × ℕ)) → states ≢ [] →
    list_any (λ (m : ℕ × ℕ). m.1 == n) (with_marks (map {A = ObjectState} {B = ℕ × ℕ} (λ st. (st.uid.num, n)) states) ks) ≡ true
some_marked n [] ks some = absurd (some refl)
some_marked n (st ∷ states) ks some = marks_keep (λ (m : ℕ × ℕ). m.1 == n) (map {A = ObjectState} {B = ℕ × ℕ} (λ z. (z.uid.num, n)) states)
    (with_mark (st.uid.num, n) ks) (mark_has (λ (m : ℕ × ℕ). m.1 == n) (st.uid.num, n) ks (itself n))
  where
    itself : (k : ℕ) → (k == k) ≡ true
    itself k = grind arith

-- ---- a target is sent something

with_cases : (m : ℕ) (ns : List ℕ) (n : ℕ) → has (with_number m ns) n ≡ true → ((m == n) ≡ true) ⊎ (has ns n ≡ true)
with_cases m [] n is = or_cases (m == n) false is
with_cases m (k ∷ ns) n is = by (nat_cmp m k) is (with_cases m ns n)
  where
    second : (a b : Bool) → b ≡ true → (a || b) ≡ true
    second true b e = refl
    second false b e = e

    by : (o : Ordering) → has (match_ordering o (m ∷ k ∷ ns) (k ∷ ns) (k ∷ with_number m ns)) n ≡ true →
        (has (with_number m ns) n ≡ true → ((m == n) ≡ true) ⊎ (has ns n ≡ true)) → ((m == n) ≡ true) ⊎ (((k == n) || has ns n) ≡ true)
    by Less e ih = or_cases (m == n) ((k == n) || has ns n) e
    by Equal e ih = inr e
    by Greater e ih = ⊎_elim (λ same. inr (ap (λ b. b || has ns n) same)) (λ rest. ⊎_elim (λ here. inl here)
        (λ there. inr (second (k == n) (has ns n) there)) (ih rest)) (or_cases (k == n) (has (with_number m ns) n) e)

pub in_set : (ns : List ℕ) (n : ℕ) → has (number_set ns) n ≡ true → has ns n ≡ true
in_set [] n is = absurd (cc is)
in_set (m ∷ ns) n is = ⊎_elim (λ same. ap (λ b. b || has ns n) same) (λ rest. second (m == n) (has ns n) (in_set ns n rest))
    (with_cases m (number_set ns) n is)
  where
    second : (a b : Bool) → b ≡ true → (a || b) ≡ true
    second true b e = refl
    second false b e = e

in_either : (xs ys : List ℕ) (n : ℕ) → has (xs ++ ys) n ≡ true → (has xs n ≡ true) ⊎ (has ys n ≡ true)
in_either [] ys n is = inr is
in_either (x ∷ xs) ys n is = ⊎_elim (λ same. inl (ap (λ b. b || has xs n) same)) (λ rest. ⊎_elim
    (λ here. inl (second (x == n) (has xs n) here)) (λ there. inr there) (in_either xs ys n rest)) (or_cases (x == n) (has (xs ++ ys) n) is)
  where
    second : (a b : Bool) → b ≡ true → (a || b) ≡ true
    second true b e = refl
    second false b e = e

some_state : (u : Used) (changed : Option ObjectState) (s : ℕ) → ((t : ℕ) → has u.joins t ≡ true → is_some u.loaded ≡ true) →
    has (stores_by u changed) s ≡ true → is_some (state_by s u changed) ≡ true
some_state u None s loads is = ap (λ b. is_some (cond b u.loaded None)) is ∙ loads s is
some_state u (Some st) s loads is = ap (λ b. is_some (cond b (Some st) None)) (⊎_elim (λ here. ap (λ b. b || has u.joins s) here)
    (λ there. second (has u.stores s) (has u.joins s) there) (in_either u.stores u.joins s is))
  where
    second : (a b : Bool) → b ≡ true → (a || b) ≡ true
    second true b e = refl
    second false b e = e

targets_sent : (s : ℕ) (p : Plan) → Loads p → has (targets_of p) s ≡ true → states_for s p ≢ []
targets_sent s p loads is = by p.used loads (in_set (flat_map (λ (u : Used). stores_by u (commit.changed_of u.x p)) p.used) s is)
  where
    one : (o : Option ObjectState) (rest : List ObjectState) → is_some o ≡ true → cons_option o rest ≢ []
    one None rest some none = absurd (cc some)
    one (Some st) rest some none = cc none

    more : (o : Option ObjectState) (rest : List ObjectState) → rest ≢ [] → cons_option o rest ≢ []
    more None rest some none = some none
    more (Some st) rest some none = cc none

    by : (us : List Used) → AllByRecursion (λ (u : Used). (t : ℕ) → has u.joins t ≡ true → is_some u.loaded ≡ true) us →
        has (flat_map (λ (u : Used). stores_by u (commit.changed_of u.x p)) us) s ≡ true → filter_map (state_for s p) us ≢ []
    by [] all on = absurd (cc on)
    by (u ∷ us) all on = ⊎_elim
        (λ here. one (state_for s p u) (filter_map (state_for s p) us) (some_state u (commit.changed_of u.x p) s all.0 here))
        (λ there. more (state_for s p u) (filter_map (state_for s p) us) (by us all.1 there))
        (in_either (stores_by u (commit.changed_of u.x p)) (flat_map (λ (v : Used). stores_by v (commit.changed_of v.x p)) us) s on)

-- what a plan includes is loaded as it begins
pub plan_loads : (path : Path) (req : ℕ) (r : Root) (c : Coord) → Loads (plan_for path req r c)
plan_loads path req r c = all (objects_in (actor path) r c)
  where
    later : (s : ObjectState) (js : List Joined) → is_some (latest_of (Some s) js) ≡ true
    later s [] = refl
    later s (j ∷ js) = later (later_state s j.loaded) js

    kept : (o : Option ObjectState) (k : Option ObjectState) → is_some o ≡ true → is_some (or_kept_state o k) ≡ true
    kept None k some = some
    kept (Some s) None some = refl
    kept (Some s) (Some t) some = refl

    found : (js : List Joined) (k : Option ObjectState) (s : ℕ) → has (number_set (map (λ (j : Joined). j.store) js)) s ≡ true →
        is_some (or_kept_state (latest_of None js) k) ≡ true
    found [] k s on = absurd (cc on)
    found (j ∷ js) k s on = kept (latest_of (Some j.loaded) js) k (later j.loaded js)

    all : (xs : List ℕ) →
        AllByRecursion (λ (u : Used). (s : ℕ) → has u.joins s ≡ true → is_some u.loaded ≡ true) (map (used_of (actor path) r c) xs)
    all [] = tt
    all (x ∷ xs) = (λ s on. found (joins_on x (actor path) r c) (at_number x r.states) s on, all xs)

-- ---- the steps of a commit

module _ (k : ℕ) (sent : List Post) (u : Uid) where
  abbrev Next : CommitStep → Type 0
  Next s = IsNext (Votes k sent) u s

  confirm_next : (us : List Used) (q : Plan) → ((n : ℕ) → AskedFrom k sent u n → WasHeard sent u q n) → Next (begin_confirm us q)
  confirm_next [] q each = tt
  confirm_next (x ∷ us) q each = each

  prepare_next : (ns : List ℕ) (q : Plan) → Loads q → ((n : ℕ) → AskedFrom k sent u n → ⊥) →
      ((n : ℕ) → has ns n ≡ true → has (targets_of q) n ≡ true) → Next (begin_prepare ns q)
  prepare_next [] q loads none aims = confirm_next q.used q (λ n asked. absurd (none n asked))
  prepare_next (s ∷ ss) q loads none aims = (loads, aims, λ n asked. absurd (none n asked))

  votes_next : (ns : List ℕ) (q : Plan) → Loads q → ((n : ℕ) → AskedFrom k sent u n → ⊥) → Next (commit.votes_left ns q)
  votes_next [] q loads none = prepare_next (targets_of q) q loads none (λ n on. on)
  votes_next (s ∷ ss) q loads none = (loads, none)

  stores_next : (ns : List ℕ) (q : Plan) → Loads q → ((n : ℕ) → has ns n ≡ true → has (targets_of q) n ≡ true) →
      ((n : ℕ) → AskedFrom k sent u n → (has ns n ≡ true) ⊎ WasHeard sent u q n) → Next (commit.stores_left ns q).step
  stores_next [] q loads aims each = confirm_next q.used q (λ n asked. ⊎_elim (λ on. absurd (cc on)) (λ heard. heard) (each n asked))
  stores_next (s ∷ ss) q loads aims each = (loads, aims, each)

  pub left_cases : (from n : ℕ) (left : List ℕ) → has left n ≡ true → (n ≡ from) ⊎ (has (without_number from left) n ≡ true)
  left_cases from n left on = by (n == from) refl
    where
      by : (b : Bool) → (n == from) ≡ b → (n ≡ from) ⊎ (has (without_number from left) n ≡ true)
      by true same = inl (eqb-true n from same)
      by false other = inr (has_without from n left ∙ (λ i. on i && not (other i)))

  pub left_less : (from n : ℕ) (left : List ℕ) → has (without_number from left) n ≡ true → has left n ≡ true
  left_less from n left on = by (has left n) (sym (has_without from n left) ∙ on)
    where
      by : (b : Bool) → (b && not (n == from)) ≡ true → b ≡ true
      by true e = refl
      by false e = e

  -- marks stay, and a target gets one
  mark_one : (from n : ℕ) (p : Plan) → IsMarked p n → IsMarked (marks_store from p) n
  mark_one from n p is = marks_keep (λ (m : ℕ × ℕ). m.1 == n) (marks_at from p) p.excluded is

  mark_all : (ns : List ℕ) (n : ℕ) (p : Plan) → IsMarked p n → IsMarked (marks_stores ns p) n
  mark_all [] n p is = is
  mark_all (m ∷ ns) n p is = mark_all ns n (marks_store m p) (mark_one m n p is)

  heard_marks : (ns : List ℕ) (n : ℕ) (p : Plan) → WasHeard sent u p n → WasHeard sent u (marks_stores ns p) n
  heard_marks [] n p h = h
  heard_marks (m ∷ ns) n p (inl yes_said) = heard_marks ns n (marks_store m p) (inl yes_said)
  heard_marks (m ∷ ns) n p (inr marked) = heard_marks ns n (marks_store m p) (inr (mark_one m n p marked))

  target_marked : (n : ℕ) (p : Plan) → Loads p → has (targets_of p) n ≡ true → IsMarked (marks_store n p) n
  target_marked n p loads on = some_marked n (states_for n p) p.excluded (targets_sent n p loads on)

  all_marked : (ns : List ℕ) (n : ℕ) (p : Plan) → Loads p → has (targets_of p) n ≡ true → has ns n ≡ true → IsMarked (marks_stores ns p) n
  all_marked [] n p loads aim on = absurd (cc on)
  all_marked (m ∷ ns) n p loads aim on = ⊎_elim
      (λ same. mark_all ns n (marks_store m p)
      (subst (λ z. IsMarked (marks_store z p) n) (sym (eqb-true m n same)) (target_marked n p loads aim)))
      (λ rest. all_marked ns n (marks_store m p) loads aim rest)
      (or_cases (m == n) (has ns n) on)

  marks_loads : (ns : List ℕ) (p : Plan) → Loads p → Loads (marks_stores ns p)
  marks_loads [] p loads = loads
  marks_loads (m ∷ ns) p loads = marks_loads ns (marks_store m p) loads

  -- an answer
  pub answer_votes : (from : ℕ) (m : Machine) (r : Reply) → (r ≡ Reply.Prepared prepared.Yes → SaidYes sent from u) →
      has (left_of m) from ≡ true → Votes k sent u m → Next (commit.answered from m r).step
  answer_votes from (Voting p left) (Reply.Voted (voted.Yes states)) said there v =
      votes_next (without_number from left) (record p { changed = commit.with_states states p.changed }) v.0 v.1
  answer_votes from (Voting p left) (Reply.Voted (voted.Changed w)) said there v = tt
  answer_votes from (Voting p left) (Reply.Bound r) said there v = v
  answer_votes from (Voting p left) (Reply.Loaded r) said there v = v
  answer_votes from (Voting p left) (Reply.Activated r) said there v = v
  answer_votes from (Voting p left) (Reply.Noted r) said there v = v
  answer_votes from (Voting p left) (Reply.Invoked r) said there v = v
  answer_votes from (Voting p left) (Reply.Prepared r) said there v = v
  answer_votes from (Voting p left) (Reply.Confirmed r) said there v = v
  answer_votes from (Preparing p left) (Reply.Prepared prepared.Yes) said there v = stores_next (without_number from left)
      (record p { prepared = with_number from p.prepared }) v.0 (λ n on. v.1 n (left_less from n left on)) (λ n asked. ⊎_elim
      (λ on. ⊎_elim (λ same. inr (inl (has_with from p.prepared n (inl same), subst (λ z. SaidYes sent z u) (sym same) (said refl))))
      (λ rest. inl rest) (left_cases from n left on))
      (λ heard. inr (one n heard)) (v.2 n asked))
    where
      one : (n : ℕ) → WasHeard sent u p n → WasHeard sent u (record p { prepared = with_number from p.prepared }) n
      one n (inl old) = inl (has_with from p.prepared n (inr old.0), old.1)
      one n (inr marked) = inr marked
  answer_votes from (Preparing p left) (Reply.Prepared (prepared.InDoubt x h)) said there v =
      stores_next (without_number from left) (marks_store from p) v.0 (λ n on. v.1 n (left_less from n left on)) (λ n asked. ⊎_elim
      (λ on. ⊎_elim (λ same. inr (inr (subst (λ z. IsMarked (marks_store from p) z) (sym same)
      (target_marked from p v.0 (v.1 from there))))) (λ rest. inl rest) (left_cases from n left on))
      (λ heard. inr (heard_marks (from ∷ []) n p heard)) (v.2 n asked))
  answer_votes from (Preparing p left) (Reply.Prepared (prepared.Old x w)) said there v = tt
  answer_votes from (Preparing p left) (Reply.Bound r) said there v = v
  answer_votes from (Preparing p left) (Reply.Loaded r) said there v = v
  answer_votes from (Preparing p left) (Reply.Activated r) said there v = v
  answer_votes from (Preparing p left) (Reply.Noted r) said there v = v
  answer_votes from (Preparing p left) (Reply.Invoked r) said there v = v
  answer_votes from (Preparing p left) (Reply.Voted r) said there v = v
  answer_votes from (Preparing p left) (Reply.Confirmed r) said there v = v
  answer_votes from (Confirming p) (Reply.Confirmed confirmed.Yes) said there v = tt
  answer_votes from (Confirming p) (Reply.Confirmed (confirmed.Conflict h m)) said there v = tt
  answer_votes from (Confirming p) (Reply.Confirmed (confirmed.Changed w)) said there v = tt
  answer_votes from (Confirming p) (Reply.Confirmed (confirmed.NoStores x)) said there v = tt
  answer_votes from (Confirming p) (Reply.Confirmed (confirmed.Listed x s)) said there v = tt
  answer_votes from (Confirming p) (Reply.Bound r) said there v = v
  answer_votes from (Confirming p) (Reply.Loaded r) said there v = v
  answer_votes from (Confirming p) (Reply.Activated r) said there v = v
  answer_votes from (Confirming p) (Reply.Noted r) said there v = v
  answer_votes from (Confirming p) (Reply.Invoked r) said there v = v
  answer_votes from (Confirming p) (Reply.Voted r) said there v = v
  answer_votes from (Confirming p) (Reply.Prepared r) said there v = v

  pub giveup_votes : (m : Machine) → Votes k sent u m → Next (commit.given_up m).step
  giveup_votes (Voting p left) v = tt
  giveup_votes (Preparing p left) v = stores_next [] (marks_stores left p) (marks_loads left p v.0) (λ n on. absurd (cc on)) (λ n asked.
      ⊎_elim (λ on. inr (inr (all_marked left n p v.0 (v.1 n on) on))) (λ heard. inr (heard_marks left n p heard)) (v.2 n asked))
  giveup_votes (Confirming p) v = tt

  -- as a commit begins nobody was asked
  pub start_votes : (path : Path) (req : ℕ) (r : Root) (c : Coord) → ((n : ℕ) → AskedFrom k sent u n → ⊥) →
      Next (commit.start (plan_for path req r c)).step
  start_votes path req r c none = by (servers_of (plan_for path req r c))
    where
      by : (ns : List ℕ) → Next (begin_vote ns (plan_for path req r c))
      by [] = prepare_next (targets_of (plan_for path req r c)) (plan_for path req r c) (plan_loads path req r c) none (λ n on. on)
      by (s ∷ ss) = (plan_loads path req r c, none)
