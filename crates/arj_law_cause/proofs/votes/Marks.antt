-- What a commit marks for exclusion: of an object of which it has a state for the store.
use Rattle.arj_law_parts.proofs.Words
use Words.{⊤, ◌≡◌, ℕ, List, [], ◌∷◌, refl, sym, subst, inl, inr, AllByRecursion, map}
use Words.{ObjectState, Reply, Uid, Branch, Coord, actor, doing_of, last_req, plan_for, root_at, root_of}
use Words.{In, Confirming, Machine, Plan, Preparing, Used, Voting, begin_confirm, begin_prepare, begin_vote, marks_at, marks_store}
use Words.{marks_stores, plan_of, servers_of, states_for, stores_left, targets_of, votes_left, with_number, without_number}
use Words.commit
use Words.confirmed
use Words.prepared
use Words.voted
use Rattle.arj_law_lock_view.proofs.facts.CommitCoords.{AreAt, IsNext, at_acked, at_acts, at_again, at_begins, at_heard}
use Rattle.arj_law_runs.proofs.coordinators.RunCoords.{IsKept}
use Rattle.arj_law_cause.proofs.spelled.Lists.{all_marks}
use Rattle.arj_law_cause.proofs.votes.Filled.{none_new}

-- the plan has a state of the object for the store
abbrev pub IsFor : Plan → ℕ × ℕ → Type 0
IsFor p m = (st : ObjectState) × In st (states_for m.1 p) × ((let u = st.uid in u.num) ≡ m.0)

abbrev pub AreFor : Plan → List (ℕ × ℕ) → Type 0
AreFor p ms = AllByRecursion (IsFor p) ms

-- Each mark of a commit under way is so; while it votes there is none.
abbrev pub IsMarking : Uid → Machine → Type 0
IsMarking u (Voting p left) = p.excluded ≡ []
IsMarking u (Preparing p left) = AreFor p p.excluded
IsMarking u (Confirming p) = ⊤

-- a store that is marked
module _ (s : ℕ) (p : Plan) where
  each_for : (sts : List ObjectState) → ((st : ObjectState) → In st sts → In st (states_for s p)) →
      AreFor p (map {A = ObjectState} {B = ℕ × ℕ} (λ st. ((let u = st.uid in u.num), s)) sts)
  each_for [] there = tt
  each_for (st ∷ sts) there = ((st, there st (inl refl), refl), each_for sts (λ z i. there z (inr i)))

  store_for : AreFor p p.excluded → AreFor p (marks_store s p).excluded
  store_for old = all_marks (IsFor p) (marks_at s p) p.excluded (each_for (states_for s p) (λ st i. i)) old

stores_for : (ns : List ℕ) (p : Plan) → AreFor p p.excluded → AreFor p (marks_stores ns p).excluded
stores_for [] p old = old
stores_for (n ∷ ns) p old = stores_for ns (marks_store n p) (store_for n p old)

module _ (u : Uid) where
  confirm_next : (us : List Used) (p : Plan) → IsNext IsMarking u (begin_confirm us p)
  confirm_next [] p = tt
  confirm_next (v ∷ vs) p = tt

  prepare_next : (p : Plan) → p.excluded ≡ [] → IsNext IsMarking u (begin_prepare (targets_of p) p)
  prepare_next p none = by (targets_of p)
    where
      by : (ns : List ℕ) → IsNext IsMarking u (begin_prepare ns p)
      by [] = confirm_next p.used p
      by (n ∷ ns) = subst (AreFor p) (sym none) tt

  votes_next : (left : List ℕ) (p : Plan) → p.excluded ≡ [] → IsNext IsMarking u (votes_left left p)
  votes_next [] p none = prepare_next p none
  votes_next (n ∷ ns) p none = none

  stores_next : (left : List ℕ) (p : Plan) → AreFor p p.excluded → IsNext IsMarking u (stores_left left p).step
  stores_next [] p old = confirm_next p.used p
  stores_next (n ∷ ns) p old = old

  start_next : (p : Plan) → p.excluded ≡ [] → IsNext IsMarking u (commit.start p).step
  start_next p none = by (servers_of p)
    where
      by : (ns : List ℕ) → IsNext IsMarking u (begin_vote ns p)
      by [] = prepare_next p none
      by (n ∷ ns) = none

  answered_next : (from : ℕ) (m : Machine) (r : Reply) → IsMarking u m → IsNext IsMarking u (commit.answered from m r).step
  answered_next from (Voting p left) (Reply.Voted (voted.Yes states)) its =
      votes_next (without_number from left) (record p { changed = commit.with_states states p.changed }) its
  answered_next from (Voting p left) (Reply.Voted (voted.Changed w)) its = tt
  answered_next from (Preparing p left) (Reply.Prepared prepared.Yes) its =
      stores_next (without_number from left) (record p { prepared = with_number from p.prepared }) its
  answered_next from (Preparing p left) (Reply.Prepared (prepared.InDoubt x holder)) its =
      stores_next (without_number from left) (marks_store from p) (store_for from p its)
  answered_next from (Preparing p left) (Reply.Prepared (prepared.Old x v)) its = tt
  answered_next from (Confirming p) (Reply.Confirmed confirmed.Yes) its = tt
  answered_next from (Confirming p) (Reply.Confirmed (confirmed.Conflict h m)) its = tt
  answered_next from (Confirming p) (Reply.Confirmed (confirmed.Changed w)) its = tt
  answered_next from (Confirming p) (Reply.Confirmed (confirmed.NoStores x)) its = tt
  answered_next from (Confirming p) (Reply.Confirmed (confirmed.Listed x s)) its = tt
  answered_next from m r its = its

  given_next : (m : Machine) → IsMarking u m → IsNext IsMarking u (commit.given_up m).step
  given_next (Voting p left) its = tt
  given_next (Preparing p left) its = let q = marks_stores left p in confirm_next q.used q
  given_next (Confirming p) its = tt

  -- what a step marks is so too
  left_for : (left : List ℕ) (p : Plan) → AreFor p p.excluded → AreFor p (stores_left left p).marks
  left_for [] p old = old
  left_for (n ∷ ns) p old = tt

  pub answered_for : (from : ℕ) (m : Machine) (r : Reply) → IsMarking u m → AreFor (plan_of m) (commit.answered from m r).marks
  answered_for from (Preparing p left) (Reply.Prepared prepared.Yes) its =
      left_for (without_number from left) (record p { prepared = with_number from p.prepared }) its
  answered_for from (Preparing p left) (Reply.Prepared (prepared.InDoubt x holder)) its =
      left_for (without_number from left) (marks_store from p) (store_for from p its)
  answered_for from (Preparing p left) (Reply.Prepared (prepared.Old x v)) its = tt
  answered_for from (Voting p left) (Reply.Voted (voted.Yes states)) its = tt
  answered_for from (Voting p left) (Reply.Voted (voted.Changed w)) its = tt
  answered_for from (Confirming p) (Reply.Confirmed r) its = tt
  answered_for from m r its = tt

  pub given_for : (m : Machine) → IsMarking u m → AreFor (plan_of m) (commit.given_up m).marks
  given_for (Voting p left) its = tt
  given_for (Preparing p left) its = stores_for left p its
  given_for (Confirming p) its = tt

-- each coordinator keeps it
abbrev pub Marking : Coord → Type 0
Marking c = AreAt IsMarking c

pub marking : IsKept Marking
marking = record {
  new = λ node inc telling. none_new IsMarking node inc telling;
  hears = λ actions paths tree from a r intents c good its.
      at_heard IsMarking c its from a r intents (λ d m found now waits p. answered_next a.act from m r p);
  acks = λ from u intents c its. at_acked IsMarking c its from u intents;
  does = λ actions paths tree intents c good its hd i none other. at_acts IsMarking c its given_next (λ b. starts b c) i intents other;
  begins = λ actions begun paths tree l k parent c good may none its. at_begins IsMarking c its l k parent;
  asks = λ ds c its. at_again IsMarking ds c its;
}
  where
    starts : (b : Branch) (c : Coord) → let p = plan_for b.path (last_req (doing_of (actor b.path) c)) (root_at (root_of b.path) c) c in
        IsNext IsMarking (actor b.path) (commit.start p).step
    starts b c = start_next (actor b.path) (plan_for b.path (last_req (doing_of (actor b.path) c)) (root_at (root_of b.path) c) c) refl
