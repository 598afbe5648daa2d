-- The votes that a commit has heard.
use Rattle.arj_law_parts.proofs.Words
use Words.{◌≡◌, ◌≢◌, ◌⊎◌, ◌∙◌, ◌==◌, ◌||◌, not, ℕ, List, [], ◌∷◌, Bool, true, false, cond, Some, None, refl, sym, ap, subst, inl, inr}
use Words.{⊎_elim, Contains, arith, eqb-true, filter, map, ◌&&◌, find, nat_lt, nat_tests, uid_is, uid_other, uid_same, in_from, in_to}
use Words.{ObjectState, Uid, object, uid_eq, Binding, Reply, actor, Confirming, Plan, Preparing, Used, Voting, begin_confirm, begin_prepare}
use Words.{begin_vote, further, is_at_server, marks_store, marks_stores, servers_of, stores_left, targets_of, votes_left, with_state}
use Words.{with_states, has, without_number, with_number}
use Words.list
use Words.voted
use Words.prepared
use Words.confirmed
use Rattle.arj_law_lock_view.proofs.Terms.{State, go_on, HaveOne, state_in, IsCalledIn, KnowsNext, Side, side_of, number_self}
use Rattle.arj_law_lock_view.proofs.view.{PlanSteps.in_set_of, ReplySteps.tied_in}
use Rattle.arj_law_lock_view.specs.view
use view.{Serving.IsVotedSo}
use view.Voted.{HasVotes, IsVoteFor, VotesAreHeard, VotesAreLost, VotesAreShown, VotesSetOut, VotesStay}

-- ---- states put in

abbrev is_for : ℕ → ObjectState → Bool
is_for x s = uid_eq s.uid (object x)

is_own : (x : ℕ) (s : ObjectState) → s.uid ≡ object x → is_for x s ≡ true
is_own x s e = ap (λ (w : Uid). uid_eq w (object x)) e ∙ uid_same (object x)

is_none : (x : ℕ) (s : ObjectState) → s.uid ≢ object x → is_for x s ≡ false
is_none x s other = uid_other s.uid (object x) other

-- one of this object is found, wherever it goes
put_own : (x : ℕ) (s : ObjectState) (all : List ObjectState) → s.uid ≡ object x → state_in x (with_state s all) ≡ Some s
put_own x s [] own = λ i. cond (is_own x s own i) (Some s) None
put_own x s (t ∷ ts) own = by (nat_lt (let u = t.uid in u.num) (let u = s.uid in u.num)) refl (put_own x s ts own)
  where
    by : (b : Bool) → nat_lt (let u = t.uid in u.num) (let u = s.uid in u.num) ≡ b → state_in x (with_state s ts) ≡ Some s →
        find (is_for x) (cond b (t ∷ with_state s ts) (s ∷ t ∷ ts)) ≡ Some s
    by false is rest = λ i. cond (is_own x s own i) (Some s) (find (is_for x) (t ∷ ts))
    by true is rest = (λ i. cond (is_none x t less i) (Some t) (find (is_for x) (with_state s ts))) ∙ rest
      where
        less : t.uid ≢ object x
        less e = (let same : (let u = t.uid in u.num) ≡ (let u = s.uid in u.num) = ap (λ (u : Uid). u.num) (e ∙ sym own) in
            grind (arith, nat_tests, is, same))

-- one of another changes nothing
put_other : (x : ℕ) (s : ObjectState) (all : List ObjectState) → s.uid ≢ object x → state_in x (with_state s all) ≡ state_in x all
put_other x s [] other = λ i. cond (is_none x s other i) (Some s) None
put_other x s (t ∷ ts) other = by (nat_lt (let u = t.uid in u.num) (let u = s.uid in u.num)) (put_other x s ts other)
  where
    by : (b : Bool) → state_in x (with_state s ts) ≡ state_in x ts →
        find (is_for x) (cond b (t ∷ with_state s ts) (s ∷ t ∷ ts)) ≡ find (is_for x) (t ∷ ts)
    by false rest = λ i. cond (is_none x s other i) (Some s) (find (is_for x) (t ∷ ts))
    by true rest = λ i. cond (is_for x t) (Some t) (rest i)

own_or_not : (x : ℕ) (s : ObjectState) → (s.uid ≡ object x) ⊎ (s.uid ≢ object x)
own_or_not x s = by (is_for x s) refl
  where
    by : (b : Bool) → is_for x s ≡ b → (s.uid ≡ object x) ⊎ (s.uid ≢ object x)
    by true is = inl (uid_is s.uid (object x) is)
    by false is = inr (λ e. absurd (let t = is_own x s e in cc (sym t ∙ is)))

-- none of these is of the object
puts_other : (x : ℕ) (ss all : List ObjectState) → ((s : ObjectState) → list.In s ss → s.uid ≢ object x) →
    state_in x (with_states ss all) ≡ state_in x all
puts_other x [] all other = refl
puts_other x (s ∷ ss) all other = puts_other x ss (with_state s all) (λ t i. other t (inr i)) ∙ put_other x s all (other s (inl refl))

-- those that are are one
puts_same : (x : ℕ) (s : ObjectState) (ss all : List ObjectState) → ((t : ObjectState) → list.In t ss → t.uid ≡ object x → t ≡ s) →
    state_in x all ≡ Some s → state_in x (with_states ss all) ≡ Some s
puts_same x s [] all same there = there
puts_same x s (t ∷ ts) all same there = puts_same x s ts (with_state t all) (λ u i. same u (inr i)) (⊎_elim
    (λ own. put_own x t all own ∙ ap Some (same t (inl refl) own))
    (λ other. put_other x t all other ∙ there)
    (own_or_not x t))

-- the object's state among those that are put in, where it had none and has one at most there
puts_one : (x : ℕ) (ss all : List ObjectState) → HaveOne x ss → state_in x all ≡ None → state_in x (with_states ss all) ≡ state_in x ss
puts_one x [] all one none = none
puts_one x (s ∷ ss) all one none = by (own_or_not x s) (puts_one x ss (with_state s all) (λ a b ia ib. one a b (more a ia) (more b ib)))
  where
    more : (t : ObjectState) → Contains ss t → Contains (s ∷ ss) t
    more t i = in_to t (s ∷ ss) (inr (in_from t ss i))

    by : (s.uid ≡ object x) ⊎ (s.uid ≢ object x) → (state_in x (with_state s all) ≡ None → state_in x (with_states ss (with_state s all))
        ≡ state_in x ss) → state_in x (with_states ss (with_state s all)) ≡ cond (is_for x s) (Some s) (state_in x ss)
    by (inl own) rest = puts_same x s ss (with_state s all) (λ t i u. one t s (in_to t (s ∷ ss) (inr i)) (in_to s (s ∷ ss) (inl refl)) u
        own) (put_own x s all own) ∙ (let e = sym (is_own x s own) in λ i. cond (e i) (Some s) (state_in x ss))
    by (inr other) rest =
        rest (put_other x s all other ∙ none) ∙ (let e = sym (is_none x s other) in λ i. cond (e i) (Some s) (state_in x ss))

-- ---- whose votes are left

has_not : (k : ℕ) (ks : List ℕ) (n : ℕ) → has (without_number k ks) n ≡ false → (n ≡ k) ⊎ (has ks n ≡ false)
has_not k [] n h = inr refl
has_not k (j ∷ js) n h = by (j == k) refl h (has_not k js n)
  where
    parts : (v u : Bool) → (v || u) ≡ false → (v ≡ false) × (u ≡ false)
    parts true u e = absurd (cc e)
    parts false u e = (refl, e)

    both : (v u : Bool) → v ≡ false → u ≡ false → (v || u) ≡ false
    both true u e f = absurd (cc e)
    both false u e f = f

    by_is : (t : Bool) → (j == n) ≡ t → (j == k) ≡ true → (n ≡ k) ⊎ (has js n ≡ false) → (n ≡ k) ⊎ ((j == n || has js n) ≡ false)
    by_is true is at ih = inl (sym (eqb-true j n is) ∙ eqb-true j k at)
    by_is false isnt at ih = ⊎_elim (λ it. inl it) (λ none. inr (both (j == n) (has js n) isnt none)) ih

    by : (t : Bool) → (j == k) ≡ t → has (cond (not t) (j ∷ without_number k js) (without_number k js)) n ≡ false →
        (has (without_number k js) n ≡ false → (n ≡ k) ⊎ (has js n ≡ false)) → (n ≡ k) ⊎ (has (j ∷ js) n ≡ false)
    by true at g ih = by_is (j == n) refl at (ih g)
    by false at g ih = let two = parts (j == n) (has (without_number k js) n) g in
        ⊎_elim (λ it. inl it) (λ none. inr (both (j == n) (has js n) two.0 none)) (ih two.1)

-- who is left behind was left
has_less : (k : ℕ) (ks : List ℕ) (n : ℕ) → has (without_number k ks) n ≡ true → (has ks n ≡ true) × (n ≢ k)
has_less k [] n h = absurd (cc h)
has_less k (j ∷ js) n h = by (j == k) refl h (has_less k js n)
  where
    later : (v u : Bool) → u ≡ true → (v || u) ≡ true
    later true u e = refl
    later false u e = e

    not_it : (j == k) ≡ false → (j == n) ≡ true → n ≢ k
    not_it off at is =
        absurd (let e = eqb-true j n at in let same : (j == k) ≡ true = ap (λ m. j == m) (sym is) ∙ at in cc (sym same ∙ off))

    by_is : (t : Bool) → (j == n) ≡ t → (j == k) ≡ false → (t || has (without_number k js) n) ≡ true →
        (has (without_number k js) n ≡ true → (has js n ≡ true) × (n ≢ k)) → ((t || has js n) ≡ true) × (n ≢ k)
    by_is true at off g ih = (refl, not_it off at)
    by_is false at off g ih = ih g

    by : (t : Bool) → (j == k) ≡ t → has (cond (not t) (j ∷ without_number k js) (without_number k js)) n ≡ true →
        (has (without_number k js) n ≡ true → (has js n ≡ true) × (n ≢ k)) → (has (j ∷ js) n ≡ true) × (n ≢ k)
    by true at g ih = let r = ih g in (later (j == n) (has js n) r.0, r.1)
    by false off g ih = by_is (j == n) refl off g ih

-- ---- the same votes, in another step

-- they speak of what is used and of what changed
again : (w : Side) (p q : Plan) (left : List ℕ) (S : State) → q.used ≡ p.used → q.changed ≡ p.changed → HasVotes w p left S →
    HasVotes w q left S
again w p q left S used changed h = record {
  once = λ a b ia ib. h.once a b (back a ia) (back b ib);
  given = λ u i off.
      subst (λ z. IsVotedSo w.act w.code w.x w.top (record { binding = u.binding; states = z }) S) (sym changed) (h.given u (back u i) off);
  awaited = λ u i at. ap (state_in w.x) changed ∙ h.awaited u (back u i) at;
  uncalled = λ none. ap (state_in w.x) changed ∙ h.uncalled (λ u i. none u (forth u i));
}
  where
    back : (u : Used) → IsCalledIn w q u → IsCalledIn w p u
    back u i = record { there = subst (λ z. Contains z u) used i.there; about = i.about; called = i.called }

    forth : (u : Used) → IsCalledIn w p u → IsCalledIn w q u
    forth u i = record { there = subst (λ z. Contains z u) (sym used) i.there; about = i.about; called = i.called }

module _ (w : Side) (S : State) where
  to_confirm : (us : List Used) (p : Plan) → HasVotes w p [] S → KnowsNext w (begin_confirm us p) S
  to_confirm [] p h = h
  to_confirm (u ∷ us) p h = again w p (further (1 ∷ []) p) [] S refl refl h

  to_prepare : (ss : List ℕ) (p : Plan) → HasVotes w p [] S → KnowsNext w (begin_prepare ss p) S
  to_prepare [] p h = to_confirm p.used p h
  to_prepare (s ∷ ss) p h = again w p (further (s ∷ ss) p) [] S refl refl h

  votes_next : (left : List ℕ) (p : Plan) → HasVotes w p left S → KnowsNext w (votes_left left p) S
  votes_next [] p h = to_prepare (targets_of p) p h
  votes_next (n ∷ ns) p h = h

  stores_next : (left : List ℕ) (p : Plan) → HasVotes w p [] S → KnowsNext w (let k = stores_left left p in k.step) S
  stores_next [] p h = to_confirm p.used p h
  stores_next (n ∷ ns) p h = h

  marks_kept : (ss : List ℕ) (p : Plan) →
      ((let q = marks_stores ss p in q.used) ≡ p.used) × ((let q = marks_stores ss p in q.changed) ≡ p.changed)
  marks_kept [] p = (refl, refl)
  marks_kept (s ∷ ss) p = marks_kept ss (marks_store s p)

  -- a vote is put in
  heard_vote : (p : Plan) (left : List ℕ) (from : ℕ) (states : List ObjectState) → has left from ≡ true → IsVoteFor w p from states S →
      HasVotes w p left S → HasVotes w (record p { changed = with_states states p.changed }) (without_number from left) S
  heard_vote p left from states waits votes h = record {
    once = λ a b ia ib. h.once a b (back a ia) (back b ib);
    given = λ u i off. given u (back u i) (has_not from left u.server off);
    awaited = λ u i at. (let r = has_less from left u.server at in
        puts_other w.x states p.changed (foreign u (back u i) r.1) ∙ h.awaited u (back u i) r.0);
    uncalled = λ none. puts_other w.x states p.changed (λ s i own. (let f = votes.used s (in_to s states i) own in
        none f.0 (record { there = let k = f.1 in k.there; about = let k = f.1 in k.about; called = let k = f.1 in k.called })))
        ∙ h.uncalled (λ u i. none u (record { there = i.there; about = i.about; called = i.called }));
  }
    where
      back : (u : Used) → IsCalledIn w (record p { changed = with_states states p.changed }) u → IsCalledIn w p u
      back u i = record { there = i.there; about = i.about; called = i.called }

      -- of what was called at another server it has none
      foreign : (u : Used) → IsCalledIn w p u → u.server ≢ from → (s : ObjectState) → list.In s states → s.uid ≢ object w.x
      foreign u i other s j own = (let f = votes.used s (in_to s states j) own in let same : f.0 ≡ u = h.once f.0 u f.1 i in
          other (ap (λ (z : Used). z.server) (sym same) ∙ f.2))

      given : (u : Used) → IsCalledIn w p u → (u.server ≡ from) ⊎ (has left u.server ≡ false) →
          IsVotedSo w.act w.code w.x w.top (record { binding = u.binding; states = with_states states p.changed }) S
      given u i (inl at) =
          let g = votes.given u i at in
          let b = g.0 in
          record {
            copy = b.copy;
            vote = b.vote;
            state = puts_one w.x states p.changed g.1 (h.awaited u i (ap (has left) at ∙ waits)) ∙ b.state;
            sees = b.sees;
          }
      given u i (inr off) =
          let b = h.given u i off in
          record {
            copy = b.copy;
            vote = b.vote;
            state = puts_other w.x states p.changed (foreign u i (λ at. absurd (cc (sym waits ∙ ap (has left) (sym at) ∙ off)))) ∙ b.state;
            sees = b.sees;
          }

pub votes_stay : VotesStay
votes_stay w p left S T run h = record {
  once = h.once;
  given = λ u i off. (let b = h.given u i off in let o = b.vote in record {
    copy = b.copy;
    vote =
        record { before = o.before; node = o.node; inc = o.inc; reached = o.reached; may = o.may; run = go_on o.run run; gives = o.gives };
    state = b.state;
    sees = b.sees;
  });
  awaited = h.awaited;
  uncalled = h.uncalled;
}

-- ---- it sets out

-- the server of what was called is one of those that are asked
voter_in : (p : Plan) (q : Used) → list.In q p.used → q.called ≡ true → list.In q.server (servers_of p)
voter_in p q i called = in_set_of q.server (map (λ (u : Used). u.server) (filter (λ (u : Used). u.called) p.used)) (of p.used i)
  where
    kept : (u : Used) (us : List Used) → list.In q.server (map (λ (z : Used). z.server) (filter (λ (z : Used). z.called) us)) →
        list.In q.server
        (map (λ (z : Used). z.server) (cond u.called (u ∷ filter (λ (z : Used). z.called) us) (filter (λ (z : Used). z.called) us)))
    kept u us j = by u.called
      where
        by : (b : Bool) → list.In q.server
            (map (λ (z : Used). z.server) (cond b (u ∷ filter (λ (z : Used). z.called) us) (filter (λ (z : Used). z.called) us)))
        by true = inr j
        by false = j

    first : (u : Used) (us : List Used) → u ≡ q → list.In q.server
        (map (λ (z : Used). z.server) (cond u.called (u ∷ filter (λ (z : Used). z.called) us) (filter (λ (z : Used). z.called) us)))
    first u us is = subst (λ (b : Bool). list.In q.server (map (λ (z : Used). z.server) (cond b (u ∷ filter (λ (z : Used). z.called) us)
        (filter (λ (z : Used). z.called) us)))) (sym (ap (λ (z : Used). z.called) is ∙ called)) (inl (ap (λ (z : Used). z.server) is))

    of : (us : List Used) → list.In q us → list.In q.server (map (λ (z : Used). z.server) (filter (λ (z : Used). z.called) us))
    of [] j = absurd j
    of (u ∷ us) (inl is) = first u us is
    of (u ∷ us) (inr j) = kept u us (of us j)

has_it : (n : ℕ) (ns : List ℕ) → list.In n ns → has ns n ≡ true
has_it n [] i = absurd i
has_it n (k ∷ ks) (inl is) = (let e : (k == n) ≡ true = ap (λ (j : ℕ). j == n) is ∙ number_self n in λ i. e i || has ks n)
has_it n (k ∷ ks) (inr i) = by (k == n) (has_it n ks i)
  where
    by : (b : Bool) → has ks n ≡ true → (b || has ks n) ≡ true
    by true h = refl
    by false h = h

pub votes_set_out : VotesSetOut
votes_set_out w p S once fresh = by (servers_of p) refl
  where
    none : state_in w.x p.changed ≡ None
    none = ap (state_in w.x) fresh

    all_left : (ss : List ℕ) → servers_of p ≡ ss → (q : Used) → IsCalledIn w p q → has ss q.server ≡ true
    all_left ss is q i =
        has_it q.server ss (subst (λ (ns : List ℕ). list.In q.server ns) is (voter_in p q (in_from q p.used i.there) i.called))

    by : (ss : List ℕ) → servers_of p ≡ ss → KnowsNext w (begin_vote ss p) S
    by [] is = to_prepare w S (targets_of p) p (record {
      once = once;
      given = λ q i off. absurd (let t = all_left [] is q i in cc (sym t));
      awaited = λ q i at. none;
      uncalled = λ never. none;
    })
    by (s ∷ ss) is = again w p (further (s ∷ ss) p) (s ∷ ss) S refl refl (record {
      once = once;
      given = λ q i off. absurd (let t = all_left (s ∷ ss) is q i in cc (sym t ∙ off));
      awaited = λ q i at. none;
      uncalled = λ never. none;
    })

-- ---- answers and giveups

pub votes_are_heard : VotesAreHeard
votes_are_heard w (Voting p left) from (Reply.Voted (voted.Yes states)) S waits shows h = votes_next w S (without_number from left)
    (record p { changed = with_states states p.changed }) (heard_vote w S p left from states waits shows h)
votes_are_heard w (Voting p left) from (Reply.Voted (voted.Changed d)) S waits shows h = tt
votes_are_heard w (Voting p left) from (Reply.Bound r) S waits shows h = h
votes_are_heard w (Voting p left) from (Reply.Loaded r) S waits shows h = h
votes_are_heard w (Voting p left) from (Reply.Activated r) S waits shows h = h
votes_are_heard w (Voting p left) from (Reply.Noted r) S waits shows h = h
votes_are_heard w (Voting p left) from (Reply.Invoked r) S waits shows h = h
votes_are_heard w (Voting p left) from (Reply.Prepared r) S waits shows h = h
votes_are_heard w (Voting p left) from (Reply.Confirmed r) S waits shows h = h
votes_are_heard w (Preparing p left) from (Reply.Prepared prepared.Yes) S waits shows h = stores_next w S (without_number from left)
    (record p { prepared = with_number from p.prepared }) (again w p (record p { prepared = with_number from p.prepared }) [] S refl refl h)
votes_are_heard w (Preparing p left) from (Reply.Prepared (prepared.InDoubt y holder)) S waits shows h =
    stores_next w S (without_number from left) (marks_store from p) (again w p (marks_store from p) [] S refl refl h)
votes_are_heard w (Preparing p left) from (Reply.Prepared (prepared.Old y n)) S waits shows h = tt
votes_are_heard w (Preparing p left) from (Reply.Bound r) S waits shows h = h
votes_are_heard w (Preparing p left) from (Reply.Loaded r) S waits shows h = h
votes_are_heard w (Preparing p left) from (Reply.Activated r) S waits shows h = h
votes_are_heard w (Preparing p left) from (Reply.Noted r) S waits shows h = h
votes_are_heard w (Preparing p left) from (Reply.Invoked r) S waits shows h = h
votes_are_heard w (Preparing p left) from (Reply.Voted r) S waits shows h = h
votes_are_heard w (Preparing p left) from (Reply.Confirmed r) S waits shows h = h
votes_are_heard w (Confirming p) from (Reply.Confirmed confirmed.Yes) S waits shows h =
    again w p (record p { confirmed = true }) [] S refl refl h
votes_are_heard w (Confirming p) from (Reply.Confirmed (confirmed.Conflict a n)) S waits shows h = tt
votes_are_heard w (Confirming p) from (Reply.Confirmed (confirmed.Changed d)) S waits shows h = tt
votes_are_heard w (Confirming p) from (Reply.Confirmed (confirmed.NoStores y)) S waits shows h = tt
votes_are_heard w (Confirming p) from (Reply.Confirmed (confirmed.Listed y n)) S waits shows h = tt
votes_are_heard w (Confirming p) from (Reply.Bound r) S waits shows h = h
votes_are_heard w (Confirming p) from (Reply.Loaded r) S waits shows h = h
votes_are_heard w (Confirming p) from (Reply.Activated r) S waits shows h = h
votes_are_heard w (Confirming p) from (Reply.Noted r) S waits shows h = h
votes_are_heard w (Confirming p) from (Reply.Invoked r) S waits shows h = h
votes_are_heard w (Confirming p) from (Reply.Voted r) S waits shows h = h
votes_are_heard w (Confirming p) from (Reply.Prepared r) S waits shows h = h

pub votes_are_lost : VotesAreLost
votes_are_lost w (Voting p left) S h = tt
votes_are_lost w (Preparing p left) S h = (let m = marks_kept w S left p in
    to_confirm w S (let q = marks_stores left p in q.used) (marks_stores left p) (again w p (marks_stores left p) [] S m.0 m.1 h))
votes_are_lost w (Confirming p) S h = tt

-- ---- what a server's answer shows

pub votes_are_shown : VotesAreShown
votes_are_shown v p left h from (voted.Changed w) T own shows = tt
votes_are_shown v p left h from (voted.Yes states) T own shows = record {
  given = λ q i at. (let its = tie q i at in let k = shows q.binding its in (k.1, k.2));
  used = λ s j is. own states s refl j is;
}
  where
    tie : (q : Used) → IsCalledIn (side_of v (actor h.path)) p q → q.server ≡ from → Contains {X = ℕ × Binding}
        (map {A = Used} {B = ℕ × Binding} (λ u. (u.x, u.binding)) (filter (is_at_server from) p.used)) (v.x, q.binding)
    tie q i at =
        let here : is_at_server from q ≡ true = (λ j. i.called j && (at j == from)) ∙ number_self from in
        let t = tied_in from q p.used (in_from q p.used i.there) here in
        in_to {X = ℕ × Binding} (v.x, q.binding) (map {A = Used} {B = ℕ × Binding} (λ u. (u.x, u.binding))
        (filter (is_at_server from) p.used)) (subst (λ (y : ℕ). list.In {X = ℕ × Binding} (y, q.binding)
        (map {A = Used} {B = ℕ × Binding} (λ u. (u.x, u.binding)) (filter (is_at_server from) p.used))) i.about t)
