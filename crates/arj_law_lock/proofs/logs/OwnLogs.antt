-- What a copy's log has of a top at its commit, by the lock machine: the top's calls that write, whatever naming has forgotten, where it
-- was confirmed before.
use Rattle.arj_law_lock.proofs.Terms
use Terms.{arith, ℕ, ◌≡◌, ◌≤◌, ◌<◌, ◌⊎◌, List, [], ◌∷◌, true, false, inl, inr, refl, sym, ◌∙◌, ap, subst, Act}
use Terms.{same, on, root, top, is_top, is_action, at, In, Call, Entry, Server, State}
use Terms.{Vote, Alive, Merged, Event}
use Terms.{VoteTop}
use Terms.{Newest}
use Terms.{newest, older, none, Guard, Run, next, start, stay, step, given_by}
use Rattle.arj_law_lock.proofs.machine
use machine.{CallSteps.top_acts, Order.go_on, Order.start_holds, Order.step_keeps, ValueLasts.clean_alive, ValueLasts.newest_on}
use machine.{ValueRun.start_values, ValueRun.step_values, VoteLasts.Votes}
use machine.Claims.{GoesOn, Holds, IsUp, Mean, Reached, Sure, server_of}
use machine.Later.{Later, alive_back, first_rises, same_server, up_back}
use machine.Paths.{above_top, by_cases, differ, on_self, on_top, on_trans, same_is}
use machine.Paths.{same_self, top_of, top_root}
use machine.ValueClaims.{Clean, IsWaiting, Logged, Values}
use machine.VoteRun.{run_all_votes, start_votes, votes_are_right}
use Rattle.arj_law_lock.specs.logs.Given.{VotesGivenAreRight}
use Rattle.arj_law_lock.proofs.logs.LoggedSteps.{Moves, OwnLog, Touched, apart, beside, goes, own_call, own_entry, own_handed, own_kept}
use Rattle.arj_law_lock.proofs.logs.LoggedSteps.{own_later}
use Rattle.arj_law_lock.proofs.logs.LoggedSteps.{own_logged, own_newest, touched}

-- ---- runs

-- naming is of the incarnation of the binding that the top's unit keeps, or the top is confirmed
abbrev pub IsPresent : Act → State → Type 0
IsPresent m s = (s.naming.first ≤ s.kept (root m)) ⊎ (s.confirmed m ≡ true)

-- While the top is at its commit, has a call that wasn't undone, and the copy of the binding that its unit keeps is up, that copy's log has
-- its calls; and it was asked for votes under that binding only.
pub record HasOwnLog (m : Act) (s : State) : Type 0 where
  pub log : (c : Call) → In c s.calls → top c.act ≡ m → Alive s c.act → (s.action m).stage ≡ 1 → IsUp s (s.kept (root m)) → IsPresent m s →
      OwnLog m s (server_of s (s.kept (root m))).log s.calls
  pub asked : (c : Call) → In c s.calls → top c.act ≡ m → Alive s c.act → (b i : ℕ) → In (Vote m b i) s.net → b ≡ s.kept (root m)

module _ (m : Act) (is : is_top m ≡ true) where
  -- where naming is of that incarnation
  log_now : (s : State) → Holds s → Values s → (c : Call) → In c s.calls → top c.act ≡ m → Alive s c.act → (s.action m).stage ≡ 1 →
      IsUp s (s.kept (root m)) → s.naming.first ≤ s.kept (root m) → OwnLog m s (server_of s (s.kept (root m))).log s.calls
  log_now s h v c ci own alive one up first =
      let n : ℕ = (s.binding (s.kept (root m))).server in
      own_logged m is s (s.server n).base (sym recorded) one going (λ d i. (h.calls d i).acts) (s.server n).log
      (λ e i. let l = v.logs n e i in (l.path, l.holder)) (λ e i o w clean. waits n e i o w clean)
      (subst (λ (j : ℕ). Logged s (server_of s j).base (server_of s j).log s.calls) recorded
      (v.copy (let e = recorded in omega (arith, e, first)) (subst (λ (j : ℕ). IsUp s j) (sym recorded) up)))
    where
      going : GoesOn s (root m)
      going = (h.tops m is).goes (omega (arith, one)) (omega (arith, one))

      recorded : s.naming.recorded ≡ s.kept (root m)
      recorded = let sure : Sure s m = subst (λ (y : Act). Sure s y) own ((h.calls c ci).sure alive) in (sure.here first going).0

      waits : (n : ℕ) (e : Entry) → In e (s.server n).log → on e.holder m ≡ true → IsWaiting s e → Clean s e.by → ⊥
      waits n e i o w clean =
          let l = v.logs n e i in
          let zero = v.path e.by w.1 (clean_alive s e.by clean) (top e.by) (on_top e.by) (top_acts e.by l.acts) in
          let q : (s.action (top e.by)).stage ≡ (s.action m).stage = ap (λ (y : Act). (s.action y).stage)
          (top_of e.by m is (on_trans e.by e.holder m l.path o)) in
          omega (arith, zero, q, one)

  module _ (s : State) (e : Event) (guard : Guard e s) (h : Holds s) (v : Values s) (later : Later s (next e s)) (ht : Holds (next e s))
      (vt : Values (next e s)) (own : HasOwnLog m s) where
    abbrev t : State
    t = next e s

    abbrev z : Touched m s t
    z = touched m is s h v e guard

    -- who isn't spoilt wasn't
    clean_back : (a : Act) → Clean t a → Clean s a
    clean_back a clean u o = (
      (let l = later.stage u in let k = (clean u o).0 in omega (arith, l, k)),
      elim (by_cases (s.action u).doomed) [ inl d ↦ differ (z.doomed u d) (clean u o).1 | inr f ↦ f ],
    )

    module _ (c : Call) (ci : In c t.calls) (its : top c.act ≡ m) (alive : Alive t c.act) (called : 1 ≤ (t.action m).stage) where
      old : In c s.calls
      old = elim (later.fresh_call c ci) [
        | inl i ↦ i
        | inr new ↦ absurd (let q : (t.action (top c.act)).stage ≡ (t.action m).stage = ap (λ (y : Act). (t.action y).stage) its in
            let k = new.0 in omega (arith, q, k, called))
      ]

      before : Alive s c.act
      before = alive_back later c.act alive

      same_kept : t.kept (root m) ≡ s.kept (root m)
      same_kept = let r : root m ≡ root c.act = ap root (sym its) ∙ top_root c.act in
          ap t.kept r ∙ later.keeps c old alive ∙ ap s.kept (sym r)

      -- where it was confirmed before
      module _ (one : (t.action m).stage ≡ 1) (up : IsUp t (t.kept (root m))) (conf : s.confirmed m ≡ true) where
        stage_there : (s.action m).stage ≡ 1
        stage_there = let l = later.stage m in let k = (h.tops m is).asked conf in omega (arith, l, k, one)

        b : ℕ
        b = s.kept (root m)

        named : (s.binding (s.kept (root m))).named ≡ true
        named = let sure : Sure s m = subst (λ (y : Act). Sure s y) its ((h.calls c old).sure before) in sure.named

        below : s.kept (root m) < s.naming.bound
        below = (h.bindings (s.kept (root m)) named).below

        up_there : IsUp s (s.kept (root m))
            × ((server_of s (s.kept (root m))).incarnation ≡ (t.server (s.binding (s.kept (root m))).server).incarnation)
        up_there = up_back later (s.kept (root m)) named below (h.bindings (s.kept (root m)) named).reached
            (subst (λ (k : ℕ). IsUp t k) same_kept up)

        server_is : server_of t (s.kept (root m)) ≡ t.server (s.binding (s.kept (root m))).server
        server_is = same_server later (s.kept (root m)) named below

        stays_up : (t.server (s.binding (s.kept (root m))).server).active ≡ s.kept (root m)
        stays_up = subst (λ (w : Server). w.active ≡ s.kept (root m)) server_is (subst (λ (k : ℕ). IsUp t k) same_kept up).1

        moved : Moves m s (server_of s (s.kept (root m))) (t.server (s.binding (s.kept (root m))).server) →
            OwnLog m s (t.server (s.binding (s.kept (root m))).server).log s.calls
        moved k = by (own.log c old its before stage_there up_there.0 (inr conf)) k
          where
            by : OwnLog m s (server_of s (s.kept (root m))).log s.calls → Moves m s (server_of s (s.kept (root m)))
                (t.server (s.binding (s.kept (root m))).server) → OwnLog m s (t.server (s.binding (s.kept (root m))).server).log s.calls
            by l (inl q) = subst (λ (es : List Entry). OwnLog m s es s.calls) (sym q) l
            by l (inr (inl (d, q, f))) = subst (λ (es : List Entry). OwnLog m s es s.calls) (sym q) (beside d f l)
            by l (inr (inr (inl (a, j, q, act)))) = subst (λ (es : List Entry). OwnLog m s es s.calls) (sym q)
                (own_handed m is s a j act (server_of s (s.kept (root m))).log s.calls l)
            by l (inr (inr (inr (inl (a, q, gone))))) = subst (λ (es : List Entry). OwnLog m s es s.calls) (sym q) (own_kept m is s a gone
                (server_of s (s.kept (root m))).log s.calls (λ d i. (v.logs (s.binding (s.kept (root m))).server d i).path) l)
            by l (inr (inr (inr (inr gone)))) = absurd (gone up_there.1 (up_there.0.1 ∙ sym stays_up))

        more_calls : (t.calls ≡ s.calls) ⊎ ((d : Call) × (t.calls ≡ d ∷ s.calls) × (top d.act ≡ m → (s.action m).stage ≡ 0)) →
            (es : List Entry) → OwnLog m s es s.calls → OwnLog m s es t.calls
        more_calls (inl q) es l = subst (λ (cs : List Call). OwnLog m s es cs) (sym q) l
        more_calls (inr (d, q, f)) es l = subst (λ (cs : List Call). OwnLog m s es cs) (sym q)
            (apart d (λ w its_own clean. let k = f its_own in let k1 = stage_there in omega (arith, k, k1)) l)

        log_after : OwnLog m t (server_of t (t.kept (root m))).log t.calls
        log_after = subst (λ (k : ℕ). OwnLog m t (server_of t k).log t.calls) (sym same_kept)
            (subst (λ (w : Server). OwnLog m t w.log t.calls) (sym server_is)
            (own_later m is s t clean_back (t.server (s.binding (s.kept (root m))).server).log t.calls (more_calls z.calls
            (t.server (s.binding (s.kept (root m))).server).log (moved (z.moves stage_there (s.binding (s.kept (root m))).server)))))

    number_cases : (x y : ℕ) → (x ≤ y) ⊎ (y < x)
    number_cases x y = grind arith

    own_step : HasOwnLog m t
    own_step = record {
      log = λ c ci its alive one up present. by c ci its alive one up (number_cases t.naming.first (t.kept (root m))) present;
      asked = λ c ci its alive b i j. (let called = (ht.mail (Vote m b i) j).4 in elim (z.votes b i j) [
        | inl k ↦ own.asked c (old c ci its alive called) its (before c ci its alive called) b i k ∙ sym (same_kept c ci its alive called)
        | inr q ↦ q
      ]);
    }
      where
        by : (c : Call) → In c t.calls → top c.act ≡ m → Alive t c.act → (t.action m).stage ≡ 1 → IsUp t (t.kept (root m)) →
            (t.naming.first ≤ t.kept (root m)) ⊎ (t.kept (root m) < t.naming.first) → IsPresent m t →
            OwnLog m t (server_of t (t.kept (root m))).log t.calls
        by c ci its alive one up (inl first) present = log_now t ht vt c ci its alive one up first
        by c ci its alive one up (inr past) (inl first) = absurd (omega (arith, past, first))
        by c ci its alive one up (inr past) (inr conf) = log_after c ci its alive called one up (elim (z.confirmed conf) [
          | inl k ↦ k
          | inr q ↦ elim (later.confirms c (old c ci its alive called) alive m is (inr (sym (top_root c.act) ∙ ap root its, inl its)) conf)
              [ inl k ↦ k | inr low ↦ absurd (let e = same_kept c ci its alive called in omega (arith, past, q, low, e)) ]
        ])
          where
            called : 1 ≤ (t.action m).stage
            called = omega (arith, one)

  pub own_run : {s t : State} → Run s t → Holds s → Values s → HasOwnLog m s → HasOwnLog m t
  own_run stay h v own = own
  own_run {s} (step e guard more_steps) h v own =
      let k = step_keeps e s guard h in
      let w = step_values e s guard h v k.0 in
      own_run more_steps k.1 w (own_step s e guard h v k.0 k.1 w own)

  pub own_start : (k : ℕ) → HasOwnLog m (start k)
  own_start k = record { log = λ c i. absurd i; asked = λ c i. absurd i }

-- ---- what was given

-- What a run leaves of a top whose commit was called, and that isn't aborted.
pub record Behind (m : Act) (s t : State) : Type 0 where
  pub stage : (s.action m).stage ≤ (t.action m).stage
  pub first : s.naming.first ≤ t.naming.first
  pub calls : (c : Call) → In c s.calls → In c t.calls
  pub old : (c : Call) → In c t.calls → top c.act ≡ m → In c s.calls
  pub back : (a : Act) → Alive t a → Alive s a
  pub alive : (c : Call) → In c s.calls → top c.act ≡ m → Alive s c.act → Alive t c.act
  pub kept : (c : Call) → In c s.calls → top c.act ≡ m → Alive t c.act → t.kept (root m) ≡ s.kept (root m)
  pub confirmed : (c : Call) → In c s.calls → top c.act ≡ m → Alive t c.act → t.confirmed m ≡ true → IsPresent m s
  pub newest : (x : ℕ) → Newest s.initial (λ (a : Act). (top a ≡ m) × Alive s a) x s.calls →
      Newest t.initial (λ (a : Act). (top a ≡ m) × Alive t a) x t.calls

module _ (m : Act) (is : is_top m ≡ true) where
  same_behind : (s : State) → Behind m s s
  same_behind s = record {
    stage = omega arith;
    first = omega arith;
    calls = λ c i. i;
    old = λ c i own. i;
    back = λ a k. k;
    alive = λ c i own k. k;
    kept = λ c i own k. refl;
    confirmed = λ c i own k conf. inr conf;
    newest = λ x k. k;
  }

  both_behind : (s t u : State) → Behind m s t → Behind m t u → Behind m s u
  both_behind s t u a b = record {
    stage = (let x = a.stage in let y = b.stage in omega (arith, x, y));
    first = (let x = a.first in let y = b.first in omega (arith, x, y));
    calls = λ c i. b.calls c (a.calls c i);
    old = λ c i own. a.old c (b.old c i own) own;
    back = λ k l. a.back k (b.back k l);
    alive = λ c i own k. b.alive c (a.calls c i) own (a.alive c i own k);
    kept = λ c i own k. b.kept c (a.calls c i) own k ∙ a.kept c i own (b.back c.act k);
    confirmed = λ c i own k conf. elim (b.confirmed c (a.calls c i) own k conf) [
      | inl low ↦ inl (let x = a.first in let y = a.kept c i own (b.back c.act k) in omega (arith, x, y, low))
      | inr on ↦ a.confirmed c i own (b.back c.act k) on
    ];
    newest = λ x k. b.newest x (a.newest x k);
  }

  step_behind : (e : Event) (s : State) → Guard e s → Holds s → Values s → Later s (next e s) → Values (next e s) → 1 ≤ (s.action m).stage →
      (let t = next e s in (t.action m).stage) ≤ 3 → Behind m s (next e s)
  step_behind e s guard h v later vt one three = record {
    stage = later.stage m;
    first = first_rises later;
    calls = later.calls;
    old = old;
    back = alive_back later;
    alive = alive;
    kept = λ c i own k. let r : root m ≡ root c.act = ap root (sym own) ∙ top_root c.act in
        ap t.kept r ∙ later.keeps c i k ∙ ap s.kept (sym r);
    confirmed = λ c i own k conf.
        elim (later.confirms c i k m is (inr (sym (top_root c.act) ∙ ap root own, inl own)) conf) [ inl on ↦ inr on | inr low ↦ inl low ];
    newest = λ x k. by x z.calls (newest_on s.initial t.initial (λ (a : Act). (top a ≡ m) × Alive s a) (λ (a : Act). (top a ≡ m)
        × Alive t a) x s.calls (sym z.initial) (λ c i w q. (q.0, alive c i q.0 q.1)) (λ c i w q. (q.0, alive_back later c.act q.1)) k);
  }
    where
      t : State
      t = next e s

      z : Touched m s t
      z = touched m is s h v e guard

      old : (c : Call) → In c t.calls → top c.act ≡ m → In c s.calls
      old c i own = elim (later.fresh_call c i) [
        | inl j ↦ j
        | inr new ↦ absurd (let q : (t.action (top c.act)).stage ≡ (t.action m).stage = ap (λ (y : Act). (t.action y).stage) own in
            let k = new.0 in let l = later.stage m in omega (arith, q, k, l, one))
      ]

      alive : (c : Call) → In c s.calls → top c.act ≡ m → Alive s c.act → Alive t c.act
      alive c i own k u o = by (by_cases (is_action u)) (by_cases (on m u))
        where
          by : (is_action u ≡ true) ⊎ (is_action u ≡ false) → (on m u ≡ true) ⊎ (on m u ≡ false) → (t.action u).stage ≤ 3
          by (inr root') x = vt.roots u root'
          by (inl act) (inl x) = elim (above_top m u is x)
              [ inl q ↦ subst (λ (y : Act). (t.action y).stage ≤ 3) (sym q) three | inr q ↦ differ act (ap is_action q) ]
          by (inl act) (inr f) = let p = (later.ends u (v.whole c i k (subst (λ (y : Act). 1 ≤ (s.action y).stage) (sym own) one) u o
              (subst (λ (y : Act). on y u ≡ false) (sym own) f))).0 in omega (arith, p)

      by : (x : ℕ) → (t.calls ≡ s.calls) ⊎ ((d : Call) × (t.calls ≡ d ∷ s.calls) × (top d.act ≡ m → (s.action m).stage ≡ 0)) → Newest
          t.initial (λ (a : Act). (top a ≡ m) × Alive t a) x s.calls → Newest t.initial (λ (a : Act). (top a ≡ m) × Alive t a) x t.calls
      by x (inl q) k = subst (λ (cs : List Call). Newest t.initial (λ (a : Act). (top a ≡ m) × Alive t a) x cs) (sym q) k
      by x (inr (d, q, f)) k = subst (λ (cs : List Call). Newest t.initial (λ (a : Act). (top a ≡ m) × Alive t a) x cs) (sym q)
          (older d (λ w own. absurd (let zero = f own.0 in omega (arith, zero, one))) k)

  -- a run's states, and where it comes to
  run_stage : {s t : State} → Run s t → Holds s → (s.action m).stage ≤ (t.action m).stage
  run_stage stay h = omega arith
  run_stage {s} (step e guard more_steps) h = let k = step_keeps e s guard h in let later = k.0 in let a = later.stage m in
      let b = run_stage more_steps k.1 in omega (arith, a, b)

  pub run_behind : {s t : State} → Run s t → Holds s → Values s → 1 ≤ (s.action m).stage → (t.action m).stage ≤ 3 → Behind m s t
  run_behind {s} stay h v one three = same_behind s
  run_behind {s} {t} (step e guard more_steps) h v one three =
      let k = step_keeps e s guard h in
      let w = step_values e s guard h v k.0 in
      let later = k.0 in
      let up = later.stage m in
      let behind = run_stage more_steps k.1 in
      both_behind s (next e s) t (step_behind e s guard h v k.0 w one (omega (arith, behind, three)))
      (run_behind more_steps k.1 w (omega (arith, up, one)) three)

-- two values that the newest write left are one
one_newest : (f : ℕ) (P : Act → Type 0) (x y : ℕ) (cs : List Call) → Newest f P x cs → Newest f P y cs → x ≡ y
one_newest f P x y [] (none p) (none q) = sym p ∙ q
one_newest f P x y (c ∷ cs) (newest _ w p g) (newest _ w2 p2 g2) = sym g ∙ g2
one_newest f P x y (c ∷ cs) (newest _ w p g) (older _ never k) = absurd (never w p)
one_newest f P x y (c ∷ cs) (older _ never k) (newest _ w p g) = absurd (never w p)
one_newest f P x y (c ∷ cs) (older _ never k) (older _ never2 l) = one_newest f P x y cs k l

module _ (first : ℕ) (s r t : State) (n : ℕ) (m : Act) (b i : ℕ) (reached : Run (start first) s) (guard : Guard (VoteTop n m b i) s)
    (run : Run (next (VoteTop n m b i) s) r) (one_there : (r.action m).stage ≡ 1) (later_run : Run r t) (two : 2 ≤ (t.action m).stage)
    (three : (t.action m).stage ≤ 3)
    (c0 : Call) (there_then : In c0 r.calls) (its : top c0.act ≡ m) (alive_then : Alive r c0.act) where
  at_vote : Holds s × Values s × Votes s
  at_vote = run_all_votes reached (start_holds first) (start_values first) (start_votes first)

  abbrev h : Holds s
  h = at_vote.0

  abbrev v : Values s
  v = at_vote.1

  mean : Mean s (Vote m b i)
  mean = h.mail (Vote m b i) guard.0

  abbrev is : is_top m ≡ true
  is = mean.0

  one : (s.action m).stage ≡ 1
  one = let k = run_stage m is (step (VoteTop n m b i) guard run) h in let l = mean.4 in omega (arith, k, l, one_there)

  whole : Run s t
  whole = go_on (step (VoteTop n m b i) guard run) later_run

  behind : Behind m s t
  behind = run_behind m is whole h v mean.4 three

  after : Holds t × Values t × Votes t
  after = run_all_votes whole h v at_vote.2

  behind_then : Behind m r t
  behind_then = (let k = run_all_votes (step (VoteTop n m b i) guard run) h v at_vote.2 in
      run_behind m is later_run k.0 k.1 (let l = one_there in omega (arith, l)) three)

  there : In c0 t.calls
  there = behind_then.calls c0 there_then

  alive : Alive t c0.act
  alive = behind_then.alive c0 there_then its alive_then

  was_there : In c0 s.calls
  was_there = behind.old c0 there its

  alive_there : Alive s c0.act
  alive_there = behind.back c0.act alive

  own : HasOwnLog m s
  own = own_run m is reached (start_holds first) (start_values first) (own_start m is first)

  here : b ≡ s.kept (root m)
  here = own.asked c0 was_there its alive_there b i guard.0

  up : IsUp s b
  up = subst (λ (x : Server). (x.incarnation ≡ (s.binding b).incarnation) × (x.active ≡ b)) (sym (ap s.server guard.1))
      (inc (subst (λ (x : Server). Reached x (s.binding b).incarnation b) (ap s.server guard.1) (h.bindings b mean.1).reached), guard.3)
    where
      inc : Reached (s.server n) (s.binding b).incarnation b → (s.server n).incarnation ≡ (s.binding b).incarnation
      inc (inl l) = absurd (let e = guard.2 in let k = mean.3 in omega (arith, l, e, k))
      inc (inr (e, l)) = sym e

  present : IsPresent m s
  present = behind.confirmed c0 was_there its alive
      ((let z = after.0 in z.tops m is).called two three c0 there alive (sym (top_root c0.act) ∙ ap root its, inl its)).1

  log : OwnLog m s (s.server n).log s.calls
  log = subst (λ (x : Server). OwnLog m s x.log s.calls) (ap s.server guard.1) (subst (λ (k : ℕ). OwnLog m s (server_of s k).log s.calls)
      (sym here) (own.log c0 was_there its alive_there one (subst (λ (k : ℕ). IsUp s k) here up) present))

  -- ---- who is spoilt

  undoomed : (u : Act) → ((s.action u).stage ≡ 1) ⊎ ((s.action u).stage ≡ 3) → (s.action u).doomed ≡ false
  undoomed u k = elim (by_cases (s.action u).doomed) [
    | inr f ↦ f
    | inl d ↦ absurd (elim (v.doomed u d).1 [
      | inl z ↦ elim k [ inl e ↦ omega (arith, z, e) | inr e ↦ omega (arith, z, e) ]
      | inr z ↦ elim k [ inl e ↦ omega (arith, z, e) | inr e ↦ omega (arith, z, e) ]
    ])
  ]

  root_clean : (u : Act) → is_action u ≡ false → ((s.action u).stage ≤ 3) × ((s.action u).doomed ≡ false)
  root_clean u f = (v.roots u f, elim (by_cases (s.action u).doomed) [ inl d ↦ differ (v.doomed u d).0 f | inr g ↦ g ])

  top_clean : (u : Act) → on m u ≡ true → ((s.action u).stage ≤ 3) × ((s.action u).doomed ≡ false)
  top_clean u p = elim (above_top m u is p) [
    | inl q ↦ subst (λ (y : Act). ((s.action y).stage ≤ 3) × ((s.action y).doomed ≡ false)) (sym q)
        ((let k = one in omega (arith, k)), undoomed m (inl one))
    | inr q ↦ root_clean u (ap is_action q)
  ]

  clean_below : (a : Act) → Merged s a m → Clean s a
  clean_below a merged u p = by (by_cases (on m u))
    where
      by : (on m u ≡ true) ⊎ (on m u ≡ false) → ((s.action u).stage ≤ 3) × ((s.action u).doomed ≡ false)
      by (inl q) = top_clean u q
      by (inr f) = let e = merged u p f in (omega (arith, e), undoomed u (inr e))

  their_clean : (d : Call) → In d s.calls → (top d.act ≡ m) × Alive s d.act → Clean s d.act
  their_clean d j (e, lives) = clean_below d.act (subst (λ (y : Act). Merged s d.act y) e
      (v.whole d j lives (subst (λ (y : Act). 1 ≤ (s.action y).stage) (sym e) (let k = one in omega (arith, k)))))

  -- what is held by the top isn't, and what stands below it otherwise is
  kinds : (e : Entry) → In e (s.server n).log → (on e.by e.holder ≡ true)
      × (((same e.holder m ≡ true) × Clean s e.by) ⊎ ((same e.holder m ≡ false) × (on e.holder m ≡ true → Clean s e.by → ⊥)))
  kinds e j = (
    (v.logs n e j).path,
    elim (by_cases (same e.holder m)) [
      | inl q ↦ inl (q, clean_below e.by (subst (λ (y : Act). Merged s e.by y) (same_is e.holder m q) (v.logs n e j).merged))
      | inr f ↦ inr (
        f,
        λ o clean. elim (guard.4 e j o) [
          | inl q ↦ differ (subst (λ (y : Act). same e.holder y ≡ true) q (same_self e.holder)) f
          | inr sp ↦
              elim sp.2 [ inl four ↦ (let l = (clean sp.0 sp.1).0 in omega (arith, l, four)) | inr doom ↦ differ doom (clean sp.0 sp.1).1 ]
        ],
      )
    ],
  )

  -- ---- the law

  pub value_is : (c : Call) → In c t.calls → c.write ≡ true → top c.act ≡ m → Alive t c.act → (t.vote m).value ≡ (given_by s n m).value
  value_is c j write own_c lives =
      one_newest t.initial (λ (a : Act). (top a ≡ m) × Alive t a) (t.vote m).value (given_by s n m).value t.calls
      ((votes_are_right after.0 after.2).value m c is two three j write own_c lives)
      (behind.newest (given_by s n m).value (own_newest m is s (s.server n).base (s.server n).log s.calls kinds their_clean log c
      (behind.old c j own_c) write (own_c, behind.back c.act lives)))

  pub has_entry : (c : Call) → In c t.calls → c.write ≡ true → top c.act ≡ m → Alive t c.act →
      (e : Entry) × In e (s.server n).log × (same e.holder m ≡ true)
  has_entry c j write own_c lives =
      let r = own_entry m is s (s.server n).base (s.server n).log s.calls log c (behind.old c j own_c) write own_c
      (their_clean c (behind.old c j own_c) (own_c, behind.back c.act lives)) in (
        r.0,
        r.1,
        elim (kinds r.0 r.1).1 [
          | inl q ↦ q.0
          | inr f ↦ absurd
              (f.1 r.2 (subst (λ (a : Act). Clean s a) (sym r.3) (their_clean c (behind.old c j own_c) (own_c, behind.back c.act lives))))
        ],
      )

  pub has_call : (e : Entry) → In e (s.server n).log → same e.holder m ≡ true →
      (c : Call) × In c t.calls × (c.write ≡ true) × (top c.act ≡ m) × Alive t c.act
  has_call e j q =
      let holder : e.holder ≡ m = same_is e.holder m q in
      let clean : Clean s e.by = clean_below e.by (subst (λ (y : Act). Merged s e.by y) holder (v.logs n e j).merged) in
      let r = own_call m is s (s.server n).base (s.server n).log s.calls log e j
      (subst (λ (y : Act). on y m ≡ true) (sym holder) (on_self m)) clean in
      let who : top (let c = r.0 in c.act) ≡ m = sym (ap top r.3)
      ∙ top_of e.by m is (subst (λ (y : Act). on e.by y ≡ true) holder (v.logs n e j).path) in
      (r.0, behind.calls r.0 r.1, r.2, who, behind.alive r.0 r.1 who (subst (λ (a : Act). Alive s a) r.3 (clean_alive s e.by clean)))

pub votes_given_are_right : VotesGivenAreRight
votes_given_are_right first s r t n m b i reached guard run one_there later_run two three c0 there its alive = (
  λ c j write own lives. (
    value_is first s r t n m b i reached guard run one_there later_run two three c0 there its alive c j write own lives,
    has_entry first s r t n m b i reached guard run one_there later_run two three c0 there its alive c j write own lives,
  ),
  λ e j q. has_call first s r t n m b i reached guard run one_there later_run two three c0 there its alive e j q,
)
