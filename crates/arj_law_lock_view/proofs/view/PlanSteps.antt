-- A top's commit goes in the machine: its votes, its confirmation, and what its decision stands on.
use Rattle.arj_law_parts.proofs.Words
use Words.{◌≡◌, ◌≤◌, ◌<◌, ◌⊎◌, ◌∙◌, ◌==◌, ◌&&◌, ◌||◌, ◌*◌, not, filter, map, ℕ, List, [], ◌∷◌, Bool, true, false, cond, refl, sym, ap}
use Words.{subst, inl, inr, ⊎_elim, arith, min, eqb-true, Contains, Ordering, Less, Equal, Greater, match_ordering, nat_cmp, and_parts}
use Words.{in_filter, in_from, in_map, in_to, Binding, Reply, actor, differs, Aborts, Asks, CommitStep, Confirming, Decides, Machine, Plan}
use Words.{Preparing, Stays, Used, Voting, begin_confirm, begin_prepare, begin_vote, first_of, further, is_at_server, least_of, marks_store}
use Words.{marks_stores, servers_of, stores_left, targets_of, votes_left, with_states, binding_number, has, number_set, with_number}
use Words.{without_number}
use Words.list
use Words.cause
use Words.confirmed
use Words.prepared
use Words.voted
use Rattle.arj_law_lock_view.proofs.Terms
use Terms.{answered, given_up, Act, In, is_top, root, top, Run, stay, step, Alive, Call, Covered, Include, Message, State, SendConfirm}
use Terms.{SendVote, Later, alive_back, covered_back, start_holds, by_cases, number_self, start_values, IsBacked, IsReached, Goes}
use Terms.{IsServedBy, IsNamedSo, AreKept, IsCounted, OnlySent, SeesMachine, SeesNext, SeesPlan, SeesVotes, ShowsToCommit, least_inc}
use Terms.machine
use Rattle.arj_law_lock.proofs.machine.{VoteLasts.MeansVoted, VoteRun.run_votes, VoteRun.start_votes}
use Rattle.arj_law_lock_view.proofs.view
use view.{RunSteps.goes_to}
use view.EverSteps.{Ever, Kept, on_run, reached_kept}
use Rattle.arj_law_lock_view.specs.view.Plans.{CommitAnswersAreTaken, CommitRequestsAreShown, CommitsAreGivenUp, CommitsSetOut}
use Rattle.arj_law_lock_view.specs.view.Plans.{CommitsStaySeen, IsIncluded}

-- each number of a list stands in its set
with_one : (k n : ℕ) (ns : List ℕ) → (n ≡ k) ⊎ list.In k ns → list.In k (with_number n ns)
with_one k n [] i = i
with_one k n (l ∷ ls) i = by (nat_cmp n l) refl i (λ j. with_one k n ls j)
  where
    one : nat_cmp n l ≡ Equal → l ≡ n
    one e = grind (arith, e)

    by : (r : Ordering) → nat_cmp n l ≡ r → (n ≡ k) ⊎ list.In k (l ∷ ls) → ((n ≡ k) ⊎ list.In k ls → list.In k (with_number n ls)) →
        list.In k (match_ordering r (n ∷ l ∷ ls) (l ∷ ls) (l ∷ with_number n ls))
    by Less e j rest = j
    by Equal e j rest = ⊎_elim (λ is. inl (one e ∙ is)) (λ old. old) j
    by Greater e (inl is) rest = inr (rest (inl is))
    by Greater e (inr (inl is)) rest = inl is
    by Greater e (inr (inr old)) rest = inr (rest (inr old))

pub in_set_of : (k : ℕ) (ks : List ℕ) → list.In k ks → list.In k (number_set ks)
in_set_of k [] i = absurd i
in_set_of k (l ∷ ls) (inl is) = with_one k l (number_set ls) (inl is)
in_set_of k (l ∷ ls) (inr i) = with_one k l (number_set ls) (inr (in_set_of k ls i))

-- the least of numbers isn't above any
pub least_below : (n : ℕ) (ns : List ℕ) → list.In n ns → least_of ns ≤ n
least_below n [] i = absurd i
least_below n (k ∷ []) (inl is) = omega (arith, is)
least_below n (k ∷ []) (inr i) = absurd i
least_below n (k ∷ l ∷ ks) (inl is) = least_left k n (least_of (l ∷ ks)) is
  where
    least_left : (a b c : ℕ) → a ≡ b → min a c ≤ b
    least_left a b c e = grind (arith, e)
least_below n (k ∷ l ∷ ks) (inr i) = least_right k (least_of (l ∷ ks)) n (least_below n (l ∷ ks) i)
  where
    least_right : (a b c : ℕ) → b ≤ c → min a b ≤ c
    least_right a b c e = grind (arith, e)

-- ---- a commit that waits

module _ (x : ℕ) (m : Act) where
  -- what counts later counted before
  module _ (s t : State) (k : Kept s) (later : Later s t) (top_is : is_top m ≡ true) (begun : 1 ≤ (s.action m).stage) where
    never : (a : Act) → (t.action (top a)).stage ≡ 0 → Covered t m a → ⊥
    never a zero_one (r, inl is) = let e : (t.action (top a)).stage ≡ (t.action m).stage = ap (λ (b : Act). (t.action b).stage) is in
        let l = later.stage m in omega (arith, zero_one, e, l, begun)
    never a zero_one (r, inr (three, less)) = omega (arith, zero_one, three)

    line : (s.action m).place < s.now
    line = let h = k.holds in let q = h.tops m top_is in q.before

    was_counted : (c : Call) → IsCounted m c t → IsCounted m c s
    was_counted c i = ⊎_elim
        (λ old. record {
          there = old;
          alive = alive_back later c.act i.alive;
          covered = covered_back later m c.act (let h = k.holds in let q = h.calls c old in q.acts) begun line i.covered;
        })
        (λ new. absurd (never c.act new.0 i.covered))
        (later.fresh_call c i.there)

    was_included : (c : Include) → IsIncluded m c t → IsIncluded m c s
    was_included c i = ⊎_elim
        (λ old. record {
          there = old;
          alive = alive_back later c.act i.alive;
          covered = covered_back later m c.act (let h = k.holds in let q = h.includes c old in q.acts) begun line i.covered;
        })
        (λ new. absurd (never c.act new.0 i.covered))
        (later.fresh_include c i.there)

  plan_on : (p : Plan) (s t : State) → Kept s → Later s t → SeesPlan x m p s → SeesPlan x m p t
  plan_on p s t k later v = record {
    top = v.top;
    begun = let l = later.stage m in let b = v.begun in omega (arith, l, b);
    calls = λ c i. v.calls c (was_counted s t k later v.top v.begun c i);
    includes = λ c i. v.includes c (was_included s t k later v.top v.begun c i);
    below = λ q c there about i. (let l = v.below q c there about (was_counted s t k later v.top v.begun c i) in
        let e = later.kept (root m) in omega (arith, l, e));
    granted = λ q c there about i. v.granted q c there about (was_included s t k later v.top v.begun c i);
  }

  votes_on : (p : Plan) (left : List ℕ) (s t : State) → Kept s → Ever s t → SeesVotes x m p left s → SeesVotes x m p left t
  votes_on p left s t k ever v = record {
    asked = λ q there about called. (let h = v.asked q there about called in (
      ever.server (binding_number q.binding) (below q h.1) ∙ h.0,
      ever.sent (machine.Vote m (binding_number q.binding) (least_inc p q.server)) h.1,
    ));
    given = λ q there about called gone. (let l = v.given q there about called gone in let e = ever.yes m in omega (arith, l, e));
  }
    where
      below : (q : Used) → In (machine.Vote m (binding_number q.binding) (least_inc p q.server)) s.net →
          binding_number q.binding < s.naming.bound
      below q sent = let h = k.holds in let mean = h.mail (machine.Vote m (binding_number q.binding) (least_inc p q.server)) sent in
          let b = h.bindings (binding_number q.binding) mean.1 in b.below

  machine_on : (j : Machine) (s t : State) → Kept s → Later s t → Ever s t → SeesMachine x m j s → SeesMachine x m j t
  machine_on (Voting p left) s t k later ever v = (plan_on p s t k later v.0, votes_on p left s t k ever v.1)
  machine_on (Preparing p left) s t k later ever v = (plan_on p s t k later v.0, votes_on p [] s t k ever v.1)
  machine_on (Confirming p) s t k later ever v =
      (plan_on p s t k later v.0, λ q there about. ever.sent (machine.Confirm m (q.grant * 4294967296)) (v.1 q there about))

pub commits_stay_seen : CommitsStaySeen
commits_stay_seen x m j S T reached run v =
    (on_run (SeesMachine x m j) (λ s t k later ever p. machine_on x m j s t k later ever p) run (reached_kept S reached) v).2

-- ---- what its requests show

pub commit_requests_are_shown : CommitRequestsAreShown
commit_requests_are_shown act code x u (Voting p left) o S about who v =
    λ b there. (let q = in_map (λ (q : Used). (q.x, q.binding)) (o.x, b) (filter (is_at_server o.node) p.used)
    (in_from (o.x, b) (map (λ (q : Used). (q.x, q.binding)) (filter (is_at_server o.node) p.used)) there) in by b q.0 q.1 q.2)
  where
    by : (b : Binding) (q : Used) → list.In q (filter (is_at_server o.node) p.used) → ◌≡◌ {A = ℕ × Binding} (q.x, q.binding) (o.x, b) →
        IsServedBy S b o.node × In (machine.Vote (act (actor o.path)) (binding_number b) (least_inc p o.node)) S.net
    by b q i is =
        let f = in_filter (is_at_server o.node) q p.used i in
        let two = and_parts q.called (q.server == o.node) f.1 in
        let at : q.server ≡ o.node = eqb-true q.server o.node two.1 in
        let same : q.binding ≡ b = ap (λ (e : ℕ × Binding). e.1) is in
        let h = v.1.asked q (in_to q p.used f.0) (ap (λ (e : ℕ × Binding). e.0) is ∙ about) two.0 in (
          subst (λ (n : ℕ). IsServedBy S b n) at (subst (λ (c : Binding). IsServedBy S c q.server) same h.0),
          subst (λ (a : Act). In (machine.Vote a (binding_number b) (least_inc p o.node)) S.net) (ap act (sym who))
              (subst (λ (n : ℕ). In (machine.Vote (act u) (binding_number b) (least_inc p n)) S.net)
              at (subst (λ (c : Binding). In (machine.Vote (act u) (binding_number c) (least_inc p q.server)) S.net) same h.1)),
        )
commit_requests_are_shown act code x u (Preparing p left) o S about who v = tt
commit_requests_are_shown act code x u (Confirming p) o S about who v = λ g there.
    (let q = in_map (λ (q : Used). (q.x, q.grant)) (o.x, g) p.used (in_from (o.x, g) (map (λ (q : Used). (q.x, q.grant)) p.used) there) in
    subst (λ (a : Act). In (machine.Confirm a (g * 4294967296)) S.net) (ap act (sym who))
    (subst (λ (n : ℕ). In (machine.Confirm (act u) (n * 4294967296)) S.net) (ap (λ (e : ℕ × ℕ). e.1) q.2)
    (v.1 q.0 (in_to q.0 p.used q.1) (ap (λ (e : ℕ × ℕ). e.0) q.2 ∙ about))))

-- ---- messages

sent_none : (S : State) → OnlySent S S
sent_none S = record { rest = refl; sent = λ y i. i }

-- ---- a confirmation is asked

votes_mean : (S : State) → IsReached S → (m : Act) → is_top m ≡ true → S.confirmed m ≡ true → MeansVoted S m
votes_mean S reached m top_is confirmed = let k = run_votes reached.1 (start_holds reached.0) (start_values reached.0)
    (start_votes reached.0) in let v = k.1.tops m top_is in v.asked confirmed

module _ (x : ℕ) (m : Act) (S : State) (reached : IsReached S) (one : (S.action m).stage ≡ 1) where
  kept : Kept S
  kept = reached_kept S reached

  abbrev with_net : List Message → State
  with_net net = record S { net = net }

  -- all have voted
  module _ (p : Plan) (v : SeesPlan x m p S) (w : SeesVotes x m p [] S) where
    voted_for : (c : Call) → IsCounted m c S → S.yes m ≡ S.kept (root m)
    voted_for c i =
        let q = v.calls c i in
        let sent = w.asked q.0 q.1 q.2 q.3 in
        let is = kept.asked m (binding_number (let u = q.0 in u.binding)) (least_inc p (let u = q.0 in u.server)) sent.1 c i.there i.alive
        i.covered in
        let low = w.given q.0 q.1 q.2 q.3 refl in
        let most = kept.low m in
        omega (arith, is, low, most)

    -- the grants of the object
    confirms : (qs : List Used) → ((q : Used) → list.In q qs → Contains p.used q) → (net : List Message) → Goes (with_net net)
        (λ T. OnlySent (with_net net) T × ((q : Used) → list.In q qs → q.x ≡ x → In (machine.Confirm m (q.grant * 4294967296)) T.net))
    confirms [] there net = record { state = with_net net; run = stay; holds = (sent_none (with_net net), λ q i. absurd i) }
    confirms (q ∷ qs) there net = ⊎_elim (here (confirms qs (λ u i. there u (inr i)) (machine.Confirm m (q.grant * 4294967296) ∷ net)))
        (away (confirms qs (λ u i. there u (inr i)) net)) (by_cases (q.x == x))
      where
        away : Goes (with_net net) (λ T. OnlySent (with_net net) T × ((u : Used) → list.In u qs → u.x ≡ x →
            In (machine.Confirm m (u.grant * 4294967296)) T.net)) → (q.x == x) ≡ false → Goes (with_net net) (λ T. OnlySent (with_net net) T
            × ((u : Used) → list.In u (q ∷ qs) → u.x ≡ x → In (machine.Confirm m (u.grant * 4294967296)) T.net))
        away rest isnt = goes_to rest (λ T h. (
          h.0,
          λ u i about. ⊎_elim (λ is. absurd (let e : (q.x == x) ≡ true = ap (λ (y : Used). y.x == x) is ∙ ap (λ (n : ℕ). n == x) about
              ∙ number_self x in cc (sym e ∙ isnt))) (λ j. h.1 u j about) i,
        ))

        counted : (c : Call) → In c S.calls → Alive S c.act → Covered S m c.act → IsCounted m c S
        counted c i alive covered = record { there = i; alive = alive; covered = covered }

        here : Goes (with_net (machine.Confirm m (q.grant * 4294967296) ∷ net))
            (λ T. OnlySent (with_net (machine.Confirm m (q.grant * 4294967296) ∷ net)) T × ((u : Used) → list.In u qs → u.x ≡ x →
            In (machine.Confirm m (u.grant * 4294967296)) T.net)) → (q.x == x) ≡ true → Goes (with_net net) (λ T. OnlySent (with_net net) T
            × ((u : Used) → list.In u (q ∷ qs) → u.x ≡ x → In (machine.Confirm m (u.grant * 4294967296)) T.net))
        here rest is = record {
          state = rest.state;
          run = step (SendConfirm m (q.grant * 4294967296)) (
            v.top,
            one,
            (λ c i alive covered. (
              voted_for c (counted c i alive covered),
              v.below q c (there q (inl refl)) (eqb-true q.x x is) (counted c i alive covered),
            )),
            (λ c i alive covered.
                v.granted q c (there q (inl refl)) (eqb-true q.x x is) (record { there = i; alive = alive; covered = covered })),
          ) rest.run;
          holds = (
            record { rest = (let r = rest.holds.0 in r.rest); sent = λ y i. (let r = rest.holds.0 in r.sent y (inr i)) },
            λ u i about. ⊎_elim (λ same. (let r = rest.holds.0 in r.sent (machine.Confirm m (u.grant * 4294967296))
                (inl (ap (λ (y : Used). machine.Confirm m (y.grant * 4294967296)) (sym same))))) (λ j. rest.holds.1 u j about) i,
          );
        }

  plan_still : (p : Plan) (T : State) → Run S T → SeesPlan x m p S → SeesPlan x m p T
  plan_still p T run v = (on_run (SeesPlan x m p) (λ s t k later ever w. plan_on x m p s t k later w) run kept v).2

  -- ---- the steps of a commit

  abbrev Next : CommitStep → Type 0
  Next c = Goes S (λ T. SeesNext x m c T × OnlySent S T)

  waits : (c : CommitStep) → SeesNext x m c S → Next c
  waits c v = record { state = S; run = stay; holds = (v, sent_none S) }

  -- a plan further on has the same objects
  plan_same : (p q : Plan) → q.used ≡ p.used → SeesPlan x m p S → SeesPlan x m q S
  plan_same p q same v = record {
    top = v.top;
    begun = v.begun;
    calls = λ c i. (let k = v.calls c i in (k.0, subst (λ (us : List Used). Contains us k.0) (sym same) k.1, k.2, k.3));
    includes = λ c i. (let k = v.includes c i in (k.0, subst (λ (us : List Used). Contains us k.0) (sym same) k.1, k.2));
    below = λ u c there. v.below u c (subst (λ (us : List Used). Contains us u) same there);
    granted = λ u c there. v.granted u c (subst (λ (us : List Used). Contains us u) same there);
  }

  votes_same : (p q : Plan) (left : List ℕ) → q.used ≡ p.used → SeesVotes x m p left S → SeesVotes x m q left S
  votes_same p q left same v = record {
    asked = λ u there about called. (let h = v.asked u (subst (λ (us : List Used). Contains us u) same there) about called in (
      h.0,
      subst (λ (n : ℕ). In (machine.Vote m (binding_number u.binding) n) S.net)
          (λ i. least_of (map (λ y. y.inc) (filter (is_at_server u.server) (sym same i)))) h.1,
    ));
    given = λ u there about called gone. v.given u (subst (λ (us : List Used). Contains us u) same there) about called gone;
  }

  to_confirm : (us : List Used) (p : Plan) → p.used ≡ us → SeesPlan x m p S → SeesVotes x m p [] S → Next (begin_confirm us p)
  to_confirm [] p is v w = waits (Decides p) (record {
    calls = λ c i alive covered. (let k = v.calls c (record { there = i; alive = alive; covered = covered }) in absurd (none k.0 k.1));
    includes =
        λ c i alive covered. (let k = v.includes c (record { there = i; alive = alive; covered = covered }) in absurd (none k.0 k.1));
  })
    where
      none : (q : Used) → Contains p.used q → ⊥
      none q there = in_from q [] (subst (λ (us : List Used). Contains us q) is there)
  to_confirm (u ∷ us) p is v w =
      let g = confirms p v w p.used (λ q i. in_to q p.used i) S.net in
      record {
        state = g.state;
        run = g.run;
        holds = ((plan_on_further g.state g.run, λ q there about. g.holds.1 q (in_from q p.used there) about), g.holds.0);
      }
    where
      plan_on_further : (T : State) → Run S T → SeesPlan x m (further (1 ∷ []) p) T
      plan_on_further T run = plan_still (further (1 ∷ []) p) T run (plan_same p (further (1 ∷ []) p) refl v)

  to_prepare : (ss : List ℕ) (p : Plan) → SeesPlan x m p S → SeesVotes x m p [] S → Next (begin_prepare ss p)
  to_prepare [] p v w = to_confirm p.used p refl v w
  to_prepare (s ∷ ss) p v w = waits (Asks (Preparing (further (s ∷ ss) p) (s ∷ ss)))
      (plan_same p (further (s ∷ ss) p) refl v, votes_same p (further (s ∷ ss) p) [] refl w)

  -- ---- answers

  -- who is left after a vote
  left_after : (from : ℕ) (left : List ℕ) (n : ℕ) → has (without_number from left) n ≡ false → (n ≡ from) ⊎ (has left n ≡ false)
  left_after from [] n h = inr refl
  left_after from (k ∷ ks) n h = by (k == from) refl h (left_after from ks n)
    where
      parts : (v w : Bool) → (v || w) ≡ false → (v ≡ false) × (w ≡ false)
      parts true w e = absurd (cc e)
      parts false w e = (refl, e)

      or_false : (v w : Bool) → v ≡ false → w ≡ false → (v || w) ≡ false
      or_false true w e f = absurd (cc e)
      or_false false w e f = f

      by : (t : Bool) → (k == from) ≡ t → has (cond (not t) (k ∷ without_number from ks) (without_number from ks)) n ≡ false →
          (has (without_number from ks) n ≡ false → (n ≡ from) ⊎ (has ks n ≡ false)) → (n ≡ from) ⊎ (has (k ∷ ks) n ≡ false)
      by true e h ih = ⊎_elim
          (λ (is : (k == n) ≡ true). inl (sym (eqb-true k n is) ∙ eqb-true k from e))
          (λ (isnt : (k == n) ≡ false). ⊎_elim (λ it. inl it) (λ none. inr (or_false (k == n) (has ks n) isnt none)) (ih h))
          (by_cases (k == n))
      by false e h ih = let two = parts (k == n) (has (without_number from ks) n) h in
          ⊎_elim (λ it. inl it) (λ none. inr (or_false (k == n) (has ks n) two.0 none)) (ih two.1)

  -- a vote is counted
  counts : (p q : Plan) (from : ℕ) (left : List ℕ) → q.used ≡ p.used → ShowsToCommit x m (Voting p left) from (Reply.Voted (voted.Yes [])) S
      → SeesVotes x m p left S → SeesVotes x m q (without_number from left) S
  counts p q from left same shows v = votes_same p q (without_number from left) same (record {
    asked = v.asked;
    given = λ u there about called gone.
        ⊎_elim (λ is. shows u there about called is) (λ none. v.given u there about called none) (left_after from left u.server gone);
  })

  votes_next : (left : List ℕ) (p : Plan) → SeesPlan x m p S → SeesVotes x m p left S → Next (votes_left left p)
  votes_next [] p v w = to_prepare (targets_of p) p v w
  votes_next (n ∷ ns) p v w = waits (Stays (Voting p (n ∷ ns))) (v, w)

  stores_next : (left : List ℕ) (p : Plan) → SeesPlan x m p S → SeesVotes x m p [] S → Next (let k = stores_left left p in k.step)
  stores_next [] p v w = to_confirm p.used p refl v w
  stores_next (n ∷ ns) p v w = waits (Stays (Preparing p (n ∷ ns))) (v, w)

  marks_used : (ss : List ℕ) (p : Plan) → (let q = marks_stores ss p in q.used) ≡ p.used
  marks_used [] p = refl
  marks_used (s ∷ ss) p = marks_used ss (marks_store s p)

  -- what was heard of the object stands behind the decision
  backed : (p : Plan) → SeesPlan x m p S → ((q : Used) → Contains p.used q → q.x ≡ x → S.confirmed m ≡ true) → IsBacked m S
  backed p v shows = record {
    calls = λ c i alive covered. (let k = v.calls c (record { there = i; alive = alive; covered = covered }) in
        let conf = shows k.0 k.1 k.2 in (votes_mean S reached m v.top conf c i alive covered, conf));
    includes = λ c i alive covered. (let k = v.includes c (record { there = i; alive = alive; covered = covered }) in shows k.0 k.1 k.2);
  }

  answer_next : (k : Machine) (from : ℕ) (r : Reply) → ShowsToCommit x m k from r S → SeesMachine x m k S →
      Next (let j = answered from k r in j.step)
  answer_next (Voting p left) from (Reply.Voted (voted.Yes states)) shows v =
      let q : Plan = record p { changed = with_states states p.changed } in
      votes_next (without_number from left) q (plan_same p q refl v.0) (counts p q from left refl shows v.1)
  answer_next (Voting p left) from (Reply.Voted (voted.Changed w)) shows v = waits (Aborts (cause.Changed from (differs w)) p) tt
  answer_next (Voting p left) from (Reply.Bound r) shows v = waits (Stays (Voting p left)) v
  answer_next (Voting p left) from (Reply.Loaded r) shows v = waits (Stays (Voting p left)) v
  answer_next (Voting p left) from (Reply.Activated r) shows v = waits (Stays (Voting p left)) v
  answer_next (Voting p left) from (Reply.Noted r) shows v = waits (Stays (Voting p left)) v
  answer_next (Voting p left) from (Reply.Invoked r) shows v = waits (Stays (Voting p left)) v
  answer_next (Voting p left) from (Reply.Prepared r) shows v = waits (Stays (Voting p left)) v
  answer_next (Voting p left) from (Reply.Confirmed r) shows v = waits (Stays (Voting p left)) v
  answer_next (Preparing p left) from (Reply.Prepared prepared.Yes) shows v =
      let q : Plan = record p { prepared = with_number from p.prepared } in
      stores_next (without_number from left) q (plan_same p q refl v.0) (votes_same p q [] refl v.1)
  answer_next (Preparing p left) from (Reply.Prepared (prepared.InDoubt y holder)) shows v =
      stores_next (without_number from left) (marks_store from p) (plan_same p (marks_store from p) refl v.0)
      (votes_same p (marks_store from p) [] refl v.1)
  answer_next (Preparing p left) from (Reply.Prepared (prepared.Old y n)) shows v = waits (Aborts (cause.Old from y n) p) tt
  answer_next (Preparing p left) from (Reply.Bound r) shows v = waits (Stays (Preparing p left)) v
  answer_next (Preparing p left) from (Reply.Loaded r) shows v = waits (Stays (Preparing p left)) v
  answer_next (Preparing p left) from (Reply.Activated r) shows v = waits (Stays (Preparing p left)) v
  answer_next (Preparing p left) from (Reply.Noted r) shows v = waits (Stays (Preparing p left)) v
  answer_next (Preparing p left) from (Reply.Invoked r) shows v = waits (Stays (Preparing p left)) v
  answer_next (Preparing p left) from (Reply.Voted r) shows v = waits (Stays (Preparing p left)) v
  answer_next (Preparing p left) from (Reply.Confirmed r) shows v = waits (Stays (Preparing p left)) v
  answer_next (Confirming p) from (Reply.Confirmed confirmed.Yes) shows v =
      waits (Decides (record p { confirmed = true })) (backed p v.0 shows)
  answer_next (Confirming p) from (Reply.Confirmed (confirmed.Conflict h n)) shows v = waits (Aborts (cause.Conflict h n 1) p) tt
  answer_next (Confirming p) from (Reply.Confirmed (confirmed.Changed w)) shows v = waits (Aborts (cause.Changed 1 (differs w)) p) tt
  answer_next (Confirming p) from (Reply.Confirmed (confirmed.NoStores y)) shows v = waits (Aborts (cause.NoStores y) p) tt
  answer_next (Confirming p) from (Reply.Confirmed (confirmed.Listed y n)) shows v = waits (Aborts (cause.Listed y n) p) tt
  answer_next (Confirming p) from (Reply.Bound r) shows v = waits (Stays (Confirming p)) v
  answer_next (Confirming p) from (Reply.Loaded r) shows v = waits (Stays (Confirming p)) v
  answer_next (Confirming p) from (Reply.Activated r) shows v = waits (Stays (Confirming p)) v
  answer_next (Confirming p) from (Reply.Noted r) shows v = waits (Stays (Confirming p)) v
  answer_next (Confirming p) from (Reply.Invoked r) shows v = waits (Stays (Confirming p)) v
  answer_next (Confirming p) from (Reply.Voted r) shows v = waits (Stays (Confirming p)) v
  answer_next (Confirming p) from (Reply.Prepared r) shows v = waits (Stays (Confirming p)) v

  given_up_next : (k : Machine) → SeesMachine x m k S → Next (let j = given_up k in j.step)
  given_up_next (Voting p left) v = waits (Aborts (cause.Lost (first_of left)) p) tt
  given_up_next (Preparing p left) v = stores_next [] (marks_stores left p) (plan_same p (marks_stores left p) (marks_used left p) v.0)
      (votes_same p (marks_stores left p) [] (marks_used left p) v.1)
  given_up_next (Confirming p) v = waits (Aborts (cause.Lost 1) p) tt

  -- ---- it sets out

  kept_test : (f : Used → Bool) (q : Used) (us : List Used) → list.In q us → f q ≡ true → list.In q (filter f us)
  kept_test f q [] i h = absurd i
  kept_test f q (u ∷ us) i h = by (f u) refl i (λ j. kept_test f q us j h)
    where
      by : (t : Bool) → f u ≡ t → list.In q (u ∷ us) → (list.In q us → list.In q (filter f us)) →
          list.In q (cond t (u ∷ filter f us) (filter f us))
      by true e (inl is) rest = inl is
      by true e (inr j) rest = inr (rest j)
      by false e (inl is) rest = absurd (cc (sym (ap f is ∙ h) ∙ e))
      by false e (inr j) rest = rest j

  mapped : (q : Used) (us : List Used) → list.In q us → list.In q.inc (map (λ (u : Used). u.inc) us)
  mapped q [] i = absurd i
  mapped q (u ∷ us) (inl is) = inl (ap (λ (y : Used). y.inc) is)
  mapped q (u ∷ us) (inr i) = inr (mapped q us i)

  module _ (p : Plan) (v : SeesPlan x m p S) (keeps : AreKept x m p S) where
    inc_low : (q : Used) → Contains p.used q → q.called ≡ true → least_inc p q.server ≤ q.inc
    inc_low q there called =
        least_below q.inc (map (λ (u : Used). u.inc) (filter (is_at_server q.server) p.used)) (mapped q (filter (is_at_server q.server)
        p.used) (kept_test (is_at_server q.server) q p.used (in_from q p.used there) (λ i. called i && number_self q.server i)))

    abbrev IsSent : List Used → List Message → Type 0
    IsSent qs net = Goes (with_net net) (λ T. OnlySent (with_net net) T × ((u : Used) → list.In u qs → u.x ≡ x → u.called ≡ true →
        In (machine.Vote m (binding_number u.binding) (least_inc p u.server)) T.net))

    votes : (qs : List Used) → ((q : Used) → list.In q qs → Contains p.used q) → (net : List Message) → IsSent qs net
    votes [] there net = record { state = with_net net; run = stay; holds = (sent_none (with_net net), λ q i. absurd i) }
    votes (q ∷ qs) there net = ⊎_elim
        (λ is. ⊎_elim (here (votes qs (λ u i. there u (inr i)) (machine.Vote m (S.kept (root m)) (least_inc p q.server) ∷ net)) is)
        (λ isnt. away (votes qs (λ u i. there u (inr i)) net) (λ about called. cc (sym called ∙ isnt))) (by_cases q.called))
        (λ isnt. away (votes qs (λ u i. there u (inr i)) net)
        (λ about called. let e : (q.x == x) ≡ true = ap (λ (n : ℕ). n == x) about ∙ number_self x in cc (sym e ∙ isnt)))
        (by_cases (q.x == x))
      where
        away : IsSent qs net → (q.x ≡ x → q.called ≡ true → ⊥) → IsSent (q ∷ qs) net
        away rest none = goes_to rest (λ T h. (
          h.0,
          λ u i about called. ⊎_elim (λ is. absurd (none (ap (λ (y : Used). y.x) is ∙ about) (ap (λ (y : Used). y.called) is ∙ called)))
              (λ j. h.1 u j about called) i,
        ))

        here : IsSent qs (machine.Vote m (S.kept (root m)) (least_inc p q.server) ∷ net) → (q.x == x) ≡ true → q.called ≡ true →
            IsSent (q ∷ qs) net
        here rest is called = record {
          state = rest.state;
          run = step (SendVote m (least_inc p q.server)) (v.top, one, named, low) rest.run;
          holds = (
            record { rest = (let r = rest.holds.0 in r.rest); sent = λ y i. (let r = rest.holds.0 in r.sent y (inr i)) },
            λ u i about its. ⊎_elim
                (λ same. (let r = rest.holds.0 in r.sent (machine.Vote m (binding_number u.binding) (least_inc p u.server))
                (inl (ap (λ (y : Used). machine.Vote m (binding_number y.binding) (least_inc p y.server)) (sym same)
                ∙ ap (λ (n : ℕ). machine.Vote m n (least_inc p q.server)) (sym its_kept.0)))))
                (λ j. rest.holds.1 u j about its)
                i,
          );
        }
          where
            its_kept : (S.kept (root m) ≡ binding_number q.binding) × IsServedBy S q.binding q.server × IsNamedSo S q.binding q.inc
            its_kept = keeps q (there q (inl refl)) (eqb-true q.x x is) called

            named : (S.binding (S.kept (root m))).named ≡ true
            named = ap (λ (n : ℕ). (S.binding n).named) its_kept.0 ∙ its_kept.2.0

            low : least_inc p q.server ≤ (S.binding (S.kept (root m))).incarnation
            low = let l = inc_low q (there q (inl refl)) called in let e : (S.binding (S.kept (root m))).incarnation ≡ q.inc = ap
                (λ (n : ℕ). (S.binding n).incarnation) its_kept.0 ∙ its_kept.2.1 in omega (arith, l, e)

    sets_out : (ss : List ℕ) → servers_of p ≡ ss → Next (begin_vote ss p)
    sets_out [] none = to_prepare (targets_of p) p v (record {
      asked = λ q there about called. absurd (nowhere q there called);
      given = λ q there about called gone. absurd (nowhere q there called);
    })
      where
        nowhere : (q : Used) → Contains p.used q → q.called ≡ true → ⊥
        nowhere q there called = subst (λ (ns : List ℕ). list.In q.server ns) none
            (in_set_of q.server (map (λ (u : Used). u.server) (filter (λ (u : Used). u.called) p.used)) (servers_in q
            (filter (λ (u : Used). u.called) p.used) (kept_test (λ (u : Used). u.called) q p.used (in_from q p.used there) called)))
          where
            servers_in : (q : Used) (us : List Used) → list.In q us → list.In q.server (map (λ (u : Used). u.server) us)
            servers_in q [] i = absurd i
            servers_in q (u ∷ us) (inl is) = inl (ap (λ (y : Used). y.server) is)
            servers_in q (u ∷ us) (inr i) = inr (servers_in q us i)
    sets_out (n ∷ ns) is =
        let g = votes p.used (λ q i. in_to q p.used i) S.net in
        let q : Plan = further (n ∷ ns) p in
        record {
          state = g.state;
          run = g.run;
          holds = (
            (
              plan_still q g.state g.run (plan_same p q refl v),
              record {
                asked = λ u there about called. (
                  server_is g.state (let o = g.holds.0 in o.rest) u (let k = keeps u there about called in k.1),
                  g.holds.1 u (in_from u p.used there) about called,
                );
                given = λ u there about called gone. absurd (waits_for u there called gone);
              },
            ),
            g.holds.0,
          );
        }
      where
        server_is : (T : State) → T ≡ record S { net = T.net } → (u : Used) → IsServedBy S u.binding u.server →
            IsServedBy T u.binding u.server
        server_is T rest u served = ap (λ (s : State). (s.binding (binding_number u.binding)).server) rest ∙ served

        servers_in : (q : Used) (us : List Used) → list.In q us → list.In q.server (map (λ (u : Used). u.server) us)
        servers_in q [] i = absurd i
        servers_in q (u ∷ us) (inl same) = inl (ap (λ (y : Used). y.server) same)
        servers_in q (u ∷ us) (inr i) = inr (servers_in q us i)

        has_in : (k : ℕ) (ks : List ℕ) → list.In k ks → has ks k ≡ true
        has_in k [] i = absurd i
        has_in k (l ∷ ls) (inl same) = (λ j. (ap (λ (y : ℕ). y == k) same ∙ number_self k) j || has ls k)
        has_in k (l ∷ ls) (inr i) = by (l == k) (has_in k ls i)
          where
            by : (t : Bool) → has ls k ≡ true → (t || has ls k) ≡ true
            by true h = refl
            by false h = h

        waits_for : (u : Used) → Contains p.used u → u.called ≡ true → has (n ∷ ns) u.server ≡ false → ⊥
        waits_for u there called gone = cc (sym (has_in u.server (n ∷ ns) (subst (λ (ks : List ℕ). list.In u.server ks) is
            (in_set_of u.server (map (λ (y : Used). y.server) (filter (λ (y : Used). y.called) p.used)) (servers_in u (filter
            (λ (y : Used). y.called) p.used) (kept_test (λ (y : Used). y.called) u p.used (in_from u p.used there) called))))) ∙ gone)

pub commit_answers_are_taken : CommitAnswersAreTaken
commit_answers_are_taken x m k from r S reached one shows v = answer_next x m S reached one k from r shows v

pub commits_are_given_up : CommitsAreGivenUp
commits_are_given_up x m k S reached one v = given_up_next x m S reached one k v

pub commits_set_out : CommitsSetOut
commits_set_out x m p S reached one keeps v = sets_out x m S reached one p v keeps (servers_of p) refl
