-- How long the lists of a commit's plan get, and of which objects its marks are: what each step of a commit keeps.
use Rattle.arj_law_parts.proofs.Words
use Words.{◌≡◌, ◌⊎◌, ◌≤◌, ◌<◌, ◌==◌, ◌+◌, ◌*◌, arith, ℕ, Bool, true, false, cond, not, List, [], ◌∷◌, filter, length, map, refl, sym, subst}
use Words.{inl, inr}
use Words.{⊎_elim, AllByRecursion, IfSome, Option, Some, None, filter_map, cons_option, length-map, ObjectState, Uid, object, Reply}
use Words.{flat_map}
use Words.{Confirming, Machine, Plan, Preparing, Used, Voting, begin_confirm, begin_prepare, begin_vote, marks_at, marks_store}
use Words.{marks_stores, plan_of, left_of, servers_of, state_for, states_for, stores_by, stores_left, targets_of, votes_left, changed_of}
use Words.{has}
use Words.{with_number, without_number}
use Words.confirmed
use Words.prepared
use Words.voted
use Words.commit
use Rattle.arj_law_lock_view.proofs.facts.CommitCoords.{IsNext}
use Rattle.arj_law_parts.proofs.parts.Numbered.{AreUp, set_up}
use Rattle.arj_law_promise.proofs.waiting.Known.{all_send}
use Rattle.arj_law_runs.specs.coordinators.Rooms.{AreRising}
use Rattle.arj_law_cause.proofs.spelled.Lists.{all_marks, filter_map_shorter, filter_shorter, marks_longer, without_shorter}
use Rattle.arj_msg.specs.InForm.{IsObject}

pub rising : (ns : List ℕ) → AreUp ns → AreRising ns
rising [] up = tt
rising (n ∷ ns) up = (up.0, rising ns up.1)

above_filter : (test : ℕ → Bool) (k : ℕ) (ns : List ℕ) → AllByRecursion (λ (m : ℕ). k < m) ns →
    AllByRecursion (λ (m : ℕ). k < m) (filter test ns)
above_filter test k [] all = tt
above_filter test k (n ∷ ns) all = by (test n) (above_filter test k ns all.1)
  where
    by : (b : Bool) → AllByRecursion (λ (m : ℕ). k < m) (filter test ns) →
        AllByRecursion (λ (m : ℕ). k < m) (cond b (n ∷ filter test ns) (filter test ns))
    by true ih = (all.0, ih)
    by false ih = ih

rising_filter : (test : ℕ → Bool) (ns : List ℕ) → AreRising ns → AreRising (filter test ns)
rising_filter test [] up = tt
rising_filter test (n ∷ ns) up = by (test n) (rising_filter test ns up.1)
  where
    by : (b : Bool) → AreRising (filter test ns) → AreRising (cond b (n ∷ filter test ns) (filter test ns))
    by true ih = (above_filter test n ns up.0, ih)
    by false ih = ih

-- ---- what is kept of a commit under way

-- a mark is of an object
abbrev pub OfObject : ℕ × ℕ → Type 0
OfObject m = IsObject m.0

-- Stores are marked in the prepare step alone, each once: at most sixteen of them, each for at most sixteen objects.
abbrev pub MarksAreFew : Machine → Type 0
MarksAreFew (Voting p left) = p.excluded ≡ []
MarksAreFew (Preparing p left) =
    AreRising left × AllByRecursion OfObject p.excluded × ((p.excluded ≡ []) ⊎ (length p.excluded + 16 * length left ≤ 256))
MarksAreFew (Confirming p) = AllByRecursion OfObject p.excluded × (length p.excluded ≤ 256)

-- each store is included once
abbrev pub JoinOnce : List Used → Type 0
JoinOnce us = AllByRecursion (λ (w : Used). AreRising w.joins) us

-- few ends, few marks, and each include once
abbrev pub IsFew : Uid → Machine → Type 0
IsFew u m = (let p = plan_of m in length p.ends ≤ 255) × JoinOnce (let p = plan_of m in p.used) × MarksAreFew m

-- What else is known of it: it uses few objects, states that are loaded are of them, and it waits for few nodes.
pub record IsOfFew (m : Machine) : Type 0 where
  pub few : length (let p = plan_of m in p.used) ≤ 16
  pub objects : AllByRecursion (λ (w : Used). IsObject w.x) (let p = plan_of m in p.used)
  pub loaded : AllByRecursion (λ (w : Used). IfSome w.loaded (λ st. st.uid ≡ object w.x)) (let p = plan_of m in p.used)
  pub left : AreRising (left_of m) → length (left_of m) ≤ 16

-- ---- marks

module _ (s : ℕ) (p : Plan) where
  marks_of : (us : List Used) → AllByRecursion (λ (w : Used). IsObject w.x) us →
      AllByRecursion (λ (w : Used). (st : ObjectState) → state_for s p w ≡ Some st → st.uid ≡ object w.x) us →
      AllByRecursion OfObject (map {A = ObjectState} {B = ℕ × ℕ} (λ st. (st.uid.num, s)) (filter_map (state_for s p) us))
  marks_of [] objects sends = tt
  marks_of (w ∷ us) objects sends = by (state_for s p w) refl (marks_of us objects.1 sends.1)
    where
      by : (o : Option ObjectState) → state_for s p w ≡ o →
          AllByRecursion OfObject (map {A = ObjectState} {B = ℕ × ℕ} (λ st. (st.uid.num, s)) (filter_map (state_for s p) us)) →
          AllByRecursion OfObject (map {A = ObjectState} {B =
          ℕ × ℕ} (λ st. (st.uid.num, s)) (cons_option o (filter_map (state_for s p) us)))
      by None is ih = ih
      by (Some st) is ih = (subst (λ (v : Uid). IsObject v.num) (sym (sends.0 st is)) objects.0, ih)

  module _ (few : length p.used ≤ 16) (objects : AllByRecursion (λ (w : Used). IsObject w.x) p.used)
      (loaded : AllByRecursion (λ (w : Used). IfSome w.loaded (λ st. st.uid ≡ object w.x)) p.used) where
    marked_few : length (marks_at s p) ≤ 16
    marked_few =
        let same = length-map {A = ObjectState} {B = ℕ × ℕ} (states_for s p) (λ st. (st.uid.num, s)) in
        let less = filter_map_shorter (state_for s p) p.used in
        omega (arith, same, less, few)

    pub marked_objects : AllByRecursion OfObject p.excluded → AllByRecursion OfObject (marks_store s p).excluded
    marked_objects old = all_marks OfObject (marks_at s p) p.excluded (marks_of p.used objects (all_send s p p.used loaded)) old

    marked_more : length (marks_store s p).excluded ≤ length p.excluded + 16
    marked_more = let more = marks_longer (marks_at s p) p.excluded in let n = marked_few in omega (arith, more, n)

-- many stores are marked
marked_all : (u : Uid) (ns : List ℕ) (p : Plan) → length p.ends ≤ 255 → JoinOnce p.used → length p.used ≤ 16 →
    AllByRecursion (λ (w : Used). IsObject w.x) p.used → AllByRecursion (λ (w : Used). IfSome w.loaded (λ st. st.uid ≡ object w.x)) p.used →
    AllByRecursion OfObject p.excluded → length p.excluded + 16 * length ns ≤ 256 → IsFew u (Confirming (marks_stores ns p))
marked_all u [] p ends joins few objects loaded old most = (ends, joins, (old, omega (arith, most)))
marked_all u (n ∷ ns) p ends joins few objects loaded old most =
    let more = marked_more n p few objects loaded in
    marked_all u ns (marks_store n p) ends joins few objects loaded (marked_objects n p few objects loaded old) (omega (arith, most, more))

-- ---- the steps of a commit

module _ (u : Uid) where
  confirm_few : (p : Plan) → IsFew u (Confirming p) → IsNext IsFew u (begin_confirm p.used p)
  confirm_few p its = by p.used
    where
      by : (us : List Used) → IsNext IsFew u (begin_confirm us p)
      by [] = tt
      by (v ∷ vs) = its

  prepare_few : (p : Plan) → length p.ends ≤ 255 → JoinOnce p.used → p.excluded ≡ [] → IsNext IsFew u (begin_prepare (targets_of p) p)
  prepare_few p ends joins none = by (targets_of p) (rising (targets_of p) (set_up (flat_map (λ w. stores_by w (changed_of w.x p)) p.used)))
    where
      objects : AllByRecursion OfObject p.excluded
      objects = subst (AllByRecursion OfObject) (sym none) tt

      most : length p.excluded ≤ 256
      most = subst (λ (ms : List (ℕ × ℕ)). length ms ≤ 256) (sym none) (omega arith)

      by : (ns : List ℕ) → AreRising ns → IsNext IsFew u (begin_prepare ns p)
      by [] up = confirm_few p (ends, joins, (objects, most))
      by (n ∷ ns) up = (ends, joins, (up, objects, inl none))

  votes_few : (p : Plan) → length p.ends ≤ 255 → JoinOnce p.used → p.excluded ≡ [] → (left : List ℕ) → IsNext IsFew u (votes_left left p)
  votes_few p ends joins none [] = prepare_few p ends joins none
  votes_few p ends joins none (n ∷ ns) = (ends, joins, none)

  stores_few : (p : Plan) → length p.ends ≤ 255 → JoinOnce p.used → (left : List ℕ) → MarksAreFew (Preparing p left) →
      IsNext IsFew u (stores_left left p).step
  stores_few p ends joins [] marks = confirm_few p (
    ends,
    joins,
    (
      marks.1,
      ⊎_elim (λ none. subst (λ (ms : List (ℕ × ℕ)). length ms ≤ 256) (sym none) (omega arith)) (λ most. omega (arith, most)) marks.2,
    ),
  )
  stores_few p ends joins (n ∷ ns) marks = (ends, joins, marks)

  -- the start
  pub start_few : (p : Plan) → length p.ends ≤ 255 → JoinOnce p.used → p.excluded ≡ [] → IsNext IsFew u (commit.start p).step
  start_few p ends joins none = by (servers_of p)
    where
      by : (ns : List ℕ) → IsNext IsFew u (begin_vote ns p)
      by [] = prepare_few p ends joins none
      by (n ∷ ns) = (ends, joins, none)

  -- an answer of a node that is asked
  pub answered_few : (from : ℕ) (m : Machine) (r : Reply) → IsOfFew m → has (left_of m) from ≡ true → IsFew u m →
      IsNext IsFew u (commit.answered from m r).step
  answered_few from (Voting p left) (Reply.Voted (voted.Yes states)) f on its =
      votes_few (record p { changed = commit.with_states states p.changed }) its.0 its.1 its.2 (without_number from left)
  answered_few from (Voting p left) (Reply.Voted (voted.Changed w)) f on its = tt
  answered_few from (Preparing p left) (Reply.Prepared prepared.Yes) f on its =
      let marks = its.2 in
      stores_few (record p { prepared = with_number from p.prepared }) its.0 its.1 (without_number from left) (
        rising_filter (λ m. not (m == from)) left marks.0,
        marks.1,
        ⊎_elim (λ none. inl none)
            (λ most. inr (let less : length (without_number from left) ≤ length left = filter_shorter (λ m. not (m == from)) left in
            omega (arith, most, less))) marks.2,
      )
  answered_few from (Preparing p left) (Reply.Prepared (prepared.InDoubt x holder)) f on its =
      let marks = its.2 in
      let more = marked_more from p f.few f.objects f.loaded in
      let less = without_shorter from left on in
      stores_few (marks_store from p) its.0 its.1 (without_number from left) (
        rising_filter (λ m. not (m == from)) left marks.0,
        marked_objects from p f.few f.objects f.loaded marks.1,
        inr (⊎_elim
            (λ none. let few = f.left marks.0 in
            let zero : length p.excluded ≤ 0 = subst (λ (ms : List (ℕ × ℕ)). length ms ≤ 0) (sym none) (omega arith) in
            omega (arith, more, less, few, zero))
            (λ most. omega (arith, more, less, most)) marks.2),
      )
  answered_few from (Preparing p left) (Reply.Prepared (prepared.Old x v)) f on its = tt
  answered_few from (Confirming p) (Reply.Confirmed confirmed.Yes) f on its = tt
  answered_few from (Confirming p) (Reply.Confirmed (confirmed.Conflict h m)) f on its = tt
  answered_few from (Confirming p) (Reply.Confirmed (confirmed.Changed w)) f on its = tt
  answered_few from (Confirming p) (Reply.Confirmed (confirmed.NoStores x)) f on its = tt
  answered_few from (Confirming p) (Reply.Confirmed (confirmed.Listed x s)) f on its = tt
  answered_few from m r f on its = its

  -- a giveup
  pub given_few : (m : Machine) → IsOfFew m → IsFew u m → IsNext IsFew u (commit.given_up m).step
  given_few (Voting p left) f its = tt
  given_few (Preparing p left) f its =
      confirm_few (marks_stores left p) (marked_all u left p its.0 its.1 f.few f.objects f.loaded (let marks =
      its.2 in marks.1) (let marks = its.2 in ⊎_elim
      (λ none. let few = f.left marks.0 in
      let zero : length p.excluded ≤ 0 = subst (λ (ms : List (ℕ × ℕ)). length ms ≤ 0) (sym none) (omega arith) in
      omega (arith, few, zero)) (λ most. most) marks.2))
  given_few (Confirming p) f its = tt
