-- The plan of a commit goes further: what it uses stays, what has changed stays, and it marks stores that it sent states to.
use Rattle.arj_law_parts.proofs.Words
use Words.{◌≡◌, ◌⊎◌, ℕ, Bool, true, false, cond, List, [], ◌∷◌, refl, sym, ◌∙◌, subst, inl, inr, ⊎_elim, ◌==◌, ◌&&◌, ◌||◌, ⊤, nat_lt}
use Words.{ObjectState, Reply, Aborts, Asks, CommitStep, Confirming, Decides, Machine, Plan, Preparing, Stays, Used, Voting, begin_confirm}
use Words.{begin_prepare, begin_vote, marks_at, marks_store, marks_stores, plan_of, stores_left, targets_of, votes_left, with_mark}
use Words.{with_marks, with_state, with_states, with_number, without_number}
use Words.list
use Words.confirmed
use Words.prepared
use Words.voted
use Words.commit

-- What a plan becomes: it uses the same, has all that had changed, and marks no store of an object but which it marked, or was sent a state
-- of it.
pub record IsFurther (p q : Plan) : Type 0 where
  pub used : q.used ≡ p.used
  pub changed : (s : ObjectState) → list.In s p.changed → list.In s q.changed
  pub marks : (m : ℕ × ℕ) → list.In m q.excluded → list.In m p.excluded ⊎ ((s : ℕ) × list.In m (marks_at s q))

-- so is the plan of a step
abbrev pub GoesFurther : Plan → CommitStep → Type 0
GoesFurther p (Stays m) = IsFurther p (plan_of m)
GoesFurther p (Asks m) = IsFurther p (plan_of m)
GoesFurther p (Decides q) = IsFurther p q
GoesFurther p (Aborts why q) = ⊤

pub further_same : (p q : Plan) → q.used ≡ p.used → q.changed ≡ p.changed → q.excluded ≡ p.excluded → IsFurther p q
further_same p q used changed marks = record {
  used = used;
  changed = λ s i. subst (λ ss. list.In s ss) (sym changed) i;
  marks = λ m i. inl (subst (λ ms. list.In m ms) marks i);
}

-- what is marked of plans that use and have changed the same
marks_same : (s : ℕ) (p q : Plan) → q.used ≡ p.used → q.changed ≡ p.changed → marks_at s q ≡ marks_at s p
marks_same s p q used changed = λ i. marks_at s (record q { used = used i; changed = changed i })

then_same : (o p q : Plan) → q.used ≡ p.used → q.changed ≡ p.changed → q.excluded ≡ p.excluded → IsFurther o p → IsFurther o q
then_same o p q used changed marks f = record {
  used = used ∙ f.used;
  changed = λ s i. subst (λ ss. list.In s ss) (sym changed) (f.changed s i);
  marks = λ m i. ⊎_elim (λ old. inl old) (λ new. inr (new.0, subst (λ ms. list.In m ms) (sym (marks_same new.0 p q used changed)) new.1))
      (f.marks m (subst (λ ms. list.In m ms) marks i));
}

one_mark : (m k : ℕ × ℕ) (all : List (ℕ × ℕ)) → list.In m (with_mark k all) → (k ≡ m) ⊎ list.In m all
one_mark m k [] (inl same) = inl same
one_mark m k [] (inr i) = absurd i
one_mark m k (n ∷ ns) i = by (nat_lt n.0 k.0 || ((n.0 == k.0) && nat_lt n.1 k.1)) i (one_mark m k ns)
  where
    by : (b : Bool) → list.In m (cond b (n ∷ with_mark k ns) (k ∷ n ∷ ns)) → (list.In m (with_mark k ns) → (k ≡ m) ⊎ list.In m ns) →
        (k ≡ m) ⊎ list.In m (n ∷ ns)
    by true (inl same) ih = inr (inl same)
    by true (inr j) ih = ⊎_elim (λ same. inl same) (λ old. inr (inr old)) (ih j)
    by false (inl same) ih = inl same
    by false (inr j) ih = inr j

all_marks : (m : ℕ × ℕ) (new all : List (ℕ × ℕ)) → list.In m (with_marks new all) → list.In m new ⊎ list.In m all
all_marks m [] all i = inr i
all_marks m (k ∷ ks) all i = ⊎_elim (λ more. inl (inr more))
    (λ rest. ⊎_elim (λ same. inl (inl same)) (λ old. inr old) (one_mark m k all rest)) (all_marks m ks (with_mark k all) i)

then_marks : (s : ℕ) (o p : Plan) → IsFurther o p → IsFurther o (marks_store s p)
then_marks s o p f = record {
  used = f.used;
  changed = f.changed;
  marks = λ m i. ⊎_elim (λ new. inr (s, new)) (λ old. ⊎_elim (λ z. inl z) (λ z. inr (z.0, z.1)) (f.marks m old))
      (all_marks m (marks_at s p) p.excluded i);
}

then_all : (ns : List ℕ) (o p : Plan) → IsFurther o p → IsFurther o (marks_stores ns p)
then_all [] o p f = f
then_all (n ∷ ns) o p f = then_all ns o (marks_store n p) (then_marks n o p f)

still_in : (s w : ObjectState) (all : List ObjectState) → list.In s all → list.In s (with_state w all)
still_in s w [] i = absurd i
still_in s w (t ∷ ts) i = by (nat_lt (let u = t.uid in u.num) (let u = w.uid in u.num)) i (still_in s w ts)
  where
    by : (b : Bool) → (t ≡ s) ⊎ list.In s ts → (list.In s ts → list.In s (with_state w ts)) →
        list.In s (cond b (t ∷ with_state w ts) (w ∷ t ∷ ts))
    by true (inl same) ih = inl same
    by true (inr j) ih = inr (ih j)
    by false j ih = inr j

all_still : (s : ObjectState) (new all : List ObjectState) → list.In s all → list.In s (with_states new all)
all_still s [] all i = i
all_still s (w ∷ ws) all i = all_still s ws (with_state w all) (still_in s w all i)

-- ---- the steps

confirm_further : (us : List Used) (o q : Plan) → IsFurther o q → GoesFurther o (begin_confirm us q)
confirm_further [] o q f = f
confirm_further (u ∷ us) o q f = then_same o q _ refl refl refl f

prepare_further : (ns : List ℕ) (o q : Plan) → IsFurther o q → GoesFurther o (begin_prepare ns q)
prepare_further [] o q f = confirm_further q.used o q f
prepare_further (n ∷ ns) o q f = then_same o q _ refl refl refl f

pub vote_further : (ns : List ℕ) (o q : Plan) → IsFurther o q → GoesFurther o (begin_vote ns q)
vote_further [] o q f = prepare_further (targets_of q) o q f
vote_further (n ∷ ns) o q f = then_same o q _ refl refl refl f

stores_further : (ns : List ℕ) (o q : Plan) → IsFurther o q → GoesFurther o (stores_left ns q).step
stores_further [] o q f = confirm_further q.used o q f
stores_further (n ∷ ns) o q f = f

votes_further : (ns : List ℕ) (o q : Plan) → IsFurther o q → GoesFurther o (votes_left ns q)
votes_further [] o q f = prepare_further (targets_of q) o q f
votes_further (n ∷ ns) o q f = f

pub itself_further : (p : Plan) → IsFurther p p
itself_further p = further_same p p refl refl refl

pub answer_further : (from : ℕ) (m : Machine) (r : Reply) → GoesFurther (plan_of m) (commit.answered from m r).step
answer_further from (Voting p left) (Reply.Voted (voted.Yes states)) =
    votes_further (without_number from left) p (record p { changed = with_states states p.changed })
    (record { used = refl; changed = λ s i. all_still s states p.changed i; marks = λ m i. inl i })
answer_further from (Voting p left) (Reply.Voted (voted.Changed w)) = tt
answer_further from (Voting p left) (Reply.Bound r) = itself_further p
answer_further from (Voting p left) (Reply.Loaded r) = itself_further p
answer_further from (Voting p left) (Reply.Activated r) = itself_further p
answer_further from (Voting p left) (Reply.Noted r) = itself_further p
answer_further from (Voting p left) (Reply.Invoked r) = itself_further p
answer_further from (Voting p left) (Reply.Prepared r) = itself_further p
answer_further from (Voting p left) (Reply.Confirmed r) = itself_further p
answer_further from (Preparing p left) (Reply.Prepared prepared.Yes) =
    stores_further (without_number from left) p (record p { prepared = with_number from p.prepared }) (further_same p _ refl refl refl)
answer_further from (Preparing p left) (Reply.Prepared (prepared.InDoubt x h)) =
    stores_further (without_number from left) p (marks_store from p) (then_marks from p p (itself_further p))
answer_further from (Preparing p left) (Reply.Prepared (prepared.Old x v)) = tt
answer_further from (Preparing p left) (Reply.Bound r) = itself_further p
answer_further from (Preparing p left) (Reply.Loaded r) = itself_further p
answer_further from (Preparing p left) (Reply.Activated r) = itself_further p
answer_further from (Preparing p left) (Reply.Noted r) = itself_further p
answer_further from (Preparing p left) (Reply.Invoked r) = itself_further p
answer_further from (Preparing p left) (Reply.Voted r) = itself_further p
answer_further from (Preparing p left) (Reply.Confirmed r) = itself_further p
answer_further from (Confirming p) (Reply.Confirmed confirmed.Yes) = further_same p _ refl refl refl
answer_further from (Confirming p) (Reply.Confirmed (confirmed.Conflict h m)) = tt
answer_further from (Confirming p) (Reply.Confirmed (confirmed.Changed w)) = tt
answer_further from (Confirming p) (Reply.Confirmed (confirmed.NoStores x)) = tt
answer_further from (Confirming p) (Reply.Confirmed (confirmed.Listed x s)) = tt
answer_further from (Confirming p) (Reply.Bound r) = itself_further p
answer_further from (Confirming p) (Reply.Loaded r) = itself_further p
answer_further from (Confirming p) (Reply.Activated r) = itself_further p
answer_further from (Confirming p) (Reply.Noted r) = itself_further p
answer_further from (Confirming p) (Reply.Invoked r) = itself_further p
answer_further from (Confirming p) (Reply.Voted r) = itself_further p
answer_further from (Confirming p) (Reply.Prepared r) = itself_further p

pub giveup_further : (m : Machine) → GoesFurther (plan_of m) (commit.given_up m).step
giveup_further (Voting p left) = tt
giveup_further (Preparing p left) = stores_further [] p (marks_stores left p) (then_all left p p (itself_further p))
giveup_further (Confirming p) = tt
