-- A commit under way was sent to each participant that it has so far, and to each node for which it waits. So all participants of a
-- decision are told of it.
use Rattle.arj_law_parts.proofs.Words
use Words.{◌≡◌, ◌⊎◌, ◌∙◌, ◌+◌, ◌==◌, ◌&&◌, ◌||◌, ℕ, Bool, true, false, cond, List, [], ◌∷◌, ◌++◌, refl, sym, ap, subst, inl, inr, ⊎_elim}
use Words.{⊤, and_parts, eqb-true, match_ordering, nat_cmp, Ordering, Less, Equal, Greater, Uid, Reply, Coord, Doing, Now, Idle, Calling}
use Words.{Committing, Plan, Machine, Voting, Preparing, Confirming, CommitStep, Stays, Asks, Decides, Aborts, Marked, Used, plan_of}
use Words.{left_of, participants, servers_of, naming_node, has, number_set, with_number, without_number, stores_left, votes_left}
use Words.{marks_store, marks_stores, ask_of, reply_kind, ask_kind}
use Words.commit
use Words.confirmed
use Words.prepared
use Words.voted
use Rattle.arj_law_disk_view.proofs.view.Planned.{has_both, has_set}
use Rattle.arj_law_parts.proofs.coordinator
use coordinator.{Works.KeepsWorks, Works.Works, Works.works_begun, Works.works_move, Works.works_new}
use coordinator.Trace.{AnswersCommit, BeginsCommit, Came, CommitOn, CommitTurn, GivesCommitUp, Trace, trace_keeps}
use coordinator.Walks.{acked_trace, acts_trace, again_keeps, heard_trace}
use Rattle.arj_law_runs.proofs.coordinators.RunCoords.{IsKept}
use Rattle.arj_law_runs.proofs.resting.Hearing.{has_left}

-- ---- lists of numbers

or_on : (a b : Bool) → a || b ≡ true → (a ≡ true) ⊎ (b ≡ true)
or_on true b on = inl refl
or_on false b on = inr on

or_both : (a b : Bool) → (a ≡ true) ⊎ (b ≡ true) → a || b ≡ true
or_both true b on = refl
or_both false b (inl off) = absurd (cc off)
or_both false b (inr on) = on

with_back : (n : ℕ) (ns : List ℕ) (m : ℕ) → has (with_number n ns) m ≡ true → ((n == m) ≡ true) ⊎ (has ns m ≡ true)
with_back n [] m on = or_on (n == m) false on
with_back n (k ∷ ks) m on = by (nat_cmp n k) on (with_back n ks m)
  where
    by : (o : Ordering) → has (match_ordering o (n ∷ k ∷ ks) (k ∷ ks) (k ∷ with_number n ks)) m ≡ true →
        (has (with_number n ks) m ≡ true → ((n == m) ≡ true) ⊎ (has ks m ≡ true)) → ((n == m) ≡ true) ⊎ (has (k ∷ ks) m ≡ true)
    by Less on rest = or_on (n == m) (has (k ∷ ks) m) on
    by Equal on rest = inr on
    by Greater on rest = ⊎_elim (λ here. inr (or_both (k == m) (has ks m) (inl here)))
        (λ there. ⊎_elim (λ one. inl one) (λ old. inr (or_both (k == m) (has ks m) (inr old))) (rest there))
        (or_on (k == m) (has (with_number n ks) m) on)

set_back : (ns : List ℕ) (m : ℕ) → has (number_set ns) m ≡ true → has ns m ≡ true
set_back [] m on = on
set_back (n ∷ ns) m on = or_both (n == m) (has ns m)
    (⊎_elim (λ one. inl one) (λ more. inr (set_back ns m more)) (with_back n (number_set ns) m on))

both_back : (xs ys : List ℕ) (m : ℕ) → has (xs ++ ys) m ≡ true → (has xs m ≡ true) ⊎ (has ys m ≡ true)
both_back [] ys m on = inr on
both_back (x ∷ xs) ys m on = ⊎_elim (λ one. inl (or_both (x == m) (has xs m) (inl one)))
    (λ more. ⊎_elim (λ a. inl (or_both (x == m) (has xs m) (inr a))) (λ b. inr b) (both_back xs ys m more))
    (or_on (x == m) (has (xs ++ ys) m) on)

-- ---- plans

-- the plan was sent to all of these
abbrev pub IsTo : Plan → List ℕ → Type 0
IsTo p ns = (n : ℕ) → has ns n ≡ true → has p.sent n ≡ true

-- it was sent to all who take part so far
pub record IsSent (p : Plan) : Type 0 where
  pub servers : IsTo p (servers_of p)
  pub prepared : IsTo p p.prepared
  pub naming : IsTo p (naming_node p)

-- so to each participant
pub all_sent : (p : Plan) → IsSent p → IsTo p (participants p)
all_sent p s n on = ⊎_elim
    (λ a. ⊎_elim (s.servers n) (s.prepared n) (both_back (servers_of p) p.prepared n a)) (s.naming n)
    (both_back (servers_of p ++ p.prepared) (naming_node p) n (set_back (servers_of p ++ p.prepared ++ naming_node p) n on))

-- and to each for which it waits
abbrev pub IsSentNow : Now → Type 0
IsSentNow Idle = ⊤
IsSentNow (Calling s) = ⊤
IsSentNow (Committing m) = IsSent (plan_of m) × IsTo (plan_of m) (left_of m)

abbrev pub StepSent : CommitStep → Type 0
StepSent (Stays m) = IsSentNow (Committing m)
StepSent (Asks m) = IsSentNow (Committing m)
StepSent (Decides p) = IsSent p
StepSent (Aborts why p) = ⊤

-- ---- steps

further_old : (ns : List ℕ) (p : Plan) (ms : List ℕ) → IsTo p ms → IsTo (commit.further ns p) ms
further_old ns p ms to n on = has_set (p.sent ++ ns) n (has_both p.sent ns n (inl (to n on)))

further_new : (ns : List ℕ) (p : Plan) → IsTo (commit.further ns p) ns
further_new ns p n on = has_set (p.sent ++ ns) n (has_both p.sent ns n (inr on))

further_sent : (ns : List ℕ) (p : Plan) → IsSent p → IsSent (commit.further ns p)
further_sent ns p s = record {
  servers = further_old ns p (servers_of p) s.servers;
  prepared = further_old ns p p.prepared s.prepared;
  naming = further_old ns p (naming_node p) s.naming;
}

confirm_sent : (us : List Used) (p : Plan) → IsSent p → StepSent (commit.begin_confirm us p)
confirm_sent [] p s = s
confirm_sent (u ∷ us) p s = (further_sent (1 ∷ []) p s, further_new (1 ∷ []) p)

prepare_sent : (targets : List ℕ) (p : Plan) → IsSent p → StepSent (commit.begin_prepare targets p)
prepare_sent [] p s = confirm_sent p.used p s
prepare_sent (n ∷ ns) p s = (further_sent (n ∷ ns) p s, further_new (n ∷ ns) p)

vote_sent : (servers : List ℕ) (p : Plan) → servers ≡ servers_of p → p.prepared ≡ [] → p.confirmed ≡ false →
    StepSent (commit.begin_vote servers p)
vote_sent servers p is none off = by servers is
  where
    never : (q : Plan) (ns : List ℕ) → ns ≡ [] → IsTo q ns
    never q ns empty n on = let no_way : true ≡ false = sym on ∙ ap (λ ms. has ms n) empty in absurd (cc no_way)

    naming_none : naming_node p ≡ []
    naming_none = λ i. cond (off i) (1 ∷ []) []

    by : (ns : List ℕ) → ns ≡ servers_of p → StepSent (commit.begin_vote ns p)
    by [] is = prepare_sent (commit.targets_of p) p (record {
      servers = never p (servers_of p) (sym is);
      prepared = never p p.prepared none;
      naming = never p (naming_node p) naming_none;
    })
    by (n ∷ ns) is = (
      record {
        servers = subst (IsTo (commit.further (n ∷ ns) p)) is (further_new (n ∷ ns) p);
        prepared = never (commit.further (n ∷ ns) p) p.prepared none;
        naming = never (commit.further (n ∷ ns) p) (naming_node p) naming_none;
      },
      further_new (n ∷ ns) p,
    )

pub starts_sent : (p : Plan) → p.prepared ≡ [] → p.confirmed ≡ false → StepSent (commit.start p).step
starts_sent p none off = vote_sent (servers_of p) p refl none off

fewer : (from : ℕ) (p : Plan) (left : List ℕ) → IsTo p left → IsTo p (without_number from left)
fewer from p left to n on = to n (has_left from n left on).0

voted_sent : (from : ℕ) (p : Plan) (left : List ℕ) → IsSent p → IsTo p left → StepSent (votes_left (without_number from left) p)
voted_sent from p left s to = by (without_number from left) (fewer from p left to)
  where
    by : (ns : List ℕ) → IsTo p ns → StepSent (votes_left ns p)
    by [] to = prepare_sent (commit.targets_of p) p s
    by (n ∷ ns) to = (s, to)

stored_sent : (ns : List ℕ) (p : Plan) → IsSent p → IsTo p ns → StepSent (stores_left ns p).step
stored_sent [] p s to = confirm_sent p.used p s
stored_sent (n ∷ ns) p s to = (s, to)

marked_sent : (n : ℕ) (p : Plan) → IsSent p → IsSent (marks_store n p)
marked_sent n p s = record { servers = s.servers; prepared = s.prepared; naming = s.naming }

all_marked : (ns : List ℕ) (p : Plan) → IsSent p → IsSent (marks_stores ns p)
all_marked [] p s = s
all_marked (n ∷ ns) p s = all_marked ns (marks_store n p) (marked_sent n p s)

pub answered_sent : (from : ℕ) (m : Machine) (r : Reply) → IsSentNow (Committing m) → has (left_of m) from ≡ true →
    StepSent (commit.answered from m r).step
answered_sent from (Voting p left) (Reply.Voted (voted.Yes states)) s on =
    voted_sent from (record p { changed = commit.with_states states p.changed }) left
    (let q = s.0 in record { servers = q.servers; prepared = q.prepared; naming = q.naming }) s.1
answered_sent from (Voting p left) (Reply.Voted (voted.Changed w)) s on = tt
answered_sent from (Preparing p left) (Reply.Prepared prepared.Yes) s on = stored_sent (without_number from left)
    (record p { prepared = with_number from p.prepared }) (let q = s.0 in record {
      servers = q.servers;
      prepared = λ n one. ⊎_elim (λ same. ap (has p.sent) (sym (eqb-true from n same)) ∙ s.1 from on) (q.prepared n)
          (with_back from p.prepared n one);
      naming = q.naming;
    }) (fewer from p left s.1)
answered_sent from (Preparing p left) (Reply.Prepared (prepared.InDoubt x holder)) s on =
    stored_sent (without_number from left) (marks_store from p) (marked_sent from p s.0) (fewer from p left s.1)
answered_sent from (Preparing p left) (Reply.Prepared (prepared.Old x v)) s on = tt
answered_sent from (Confirming p) (Reply.Confirmed confirmed.Yes) s on =
    let q = s.0 in record { servers = q.servers; prepared = q.prepared; naming = s.1 }
answered_sent from (Confirming p) (Reply.Confirmed (confirmed.Conflict holder m)) s on = tt
answered_sent from (Confirming p) (Reply.Confirmed (confirmed.Changed w)) s on = tt
answered_sent from (Confirming p) (Reply.Confirmed (confirmed.NoStores x)) s on = tt
answered_sent from (Confirming p) (Reply.Confirmed (confirmed.Listed x n)) s on = tt
answered_sent from m r s on = s

given_sent : (m : Machine) → IsSentNow (Committing m) → StepSent (commit.given_up m).step
given_sent (Voting p left) s = tt
given_sent (Preparing p left) s = confirm_sent (marks_stores left p).used (marks_stores left p) (all_marked left p s.0)
given_sent (Confirming p) s = tt

-- ---- coordinators

abbrev Its : Uid → Doing → Type 0
Its u d = IsSentNow d.now

-- so it is of each commit under way
abbrev pub AllSent : Coord → Type 0
AllSent c = Works Its c

module _ {c : Coord} (all : AllSent c) where
  turned_sent : {came : Came} (u : Uid) (k : Marked) → CommitTurn c came u k → StepSent k.step
  turned_sent _ _ (BeginsCommit l b intents named undoomed unnested unserial) = starts_sent
      (Words.plan_for b.path (Words.last_req (Words.doing_of (Words.actor b.path) c)) (Words.root_at (Words.root_of b.path) c) c) refl refl
  turned_sent _ _ (AnswersCommit from a r intents d m found is waits) = answered_sent from m r (subst IsSentNow is (all a.act d found))
      (and_parts (reply_kind r == ask_kind (ask_of m from)) (has (left_of m) from)
      (and_parts ((plan_of m).req == a.req) ((reply_kind r == ask_kind (ask_of m from)) && has (left_of m) from) waits).1).1
  turned_sent _ _ (GivesCommitUp l b intents d m named found is) = given_sent m (subst IsSentNow is (all _ d found))

  on_sent : {came : Came} (u : Uid) (m : Machine) → CommitOn c came u m → IsSentNow (Committing m)
  on_sent u m on = ⊎_elim (λ is. subst StepSent is (turned_sent u on.turn on.turns)) (λ is. subst StepSent is
      (turned_sent u on.turn on.turns)) on.on

  keeps : {came : Came} → KeepsWorks Its c came
  keeps = record {
    fresh = λ u l. tt;
    rests = λ u d h. tt;
    takes = λ u d ns h. h;
    calls = λ s d e is h. tt;
    commits = λ u m d on h. on_sent u m on;
  }

  trace_sent : {came : Came} {e : Coord} {outs : List Words.Effect} → Trace c came c outs e → AllSent e
  trace_sent t = trace_keeps (Works Its) (works_move Its keeps) t all

pub sents_kept : IsKept AllSent
sents_kept = record {
  new = λ node inc telling. works_new Its node inc telling;
  hears = λ actions paths tree from a r intents c good all. trace_sent all (heard_trace c from a r intents);
  acks = λ from u intents c all. trace_sent all (acked_trace c from u intents);
  does = λ actions paths tree intents c good all hd i none other. trace_sent all (acts_trace c i intents);
  begins = λ actions begun paths tree l k parent c good may none all. works_begun Its l k parent (Words.parent_of parent c) c (λ u. tt) all;
  asks = λ ds c all. again_keeps (Works Its) (λ root w e n. n) ds c all;
}
